use Rattle.std.proofs.Common.{sym, ◌∙◌}
use Rattle.std.specs.Prelude.{nat_eq}
use Rattle.std.specs.HashMap.{get}
use Rattle.rz_types_fields.proofs.SymbolPlaces.{noted_again, noted_new}
use Rattle.rz_types_fields.proofs.symbol_list.note_number.Goals as goal

pub returns-in_ok-insert : goal.returns-in_ok-insert
returns-in_ok-insert c other =
    c.in_ok-insert.ensures.updates.0 other
    ∙ noted_new c.args.number other c.args.position (get nat_eq c.args.places.now) (sym c.contains_key.ensures ∙ c.if-not-contains_key.true)

pub returns-else-not-contains_key : goal.returns-else-not-contains_key
returns-else-not-contains_key c other = noted_again c.args.number other c.args.position (get nat_eq c.args.places.now) (sym c.contains_key.ensures ∙ c.if-not-contains_key.false)
