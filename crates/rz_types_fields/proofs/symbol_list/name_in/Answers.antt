use Rattle.std.proofs.Common.{ℕ, Option, nat_abs, ap, ◌∙◌}
use Rattle.std.specs.Prelude.{option_and_then, option_map, slice_get}
use Rattle.rz_types_fields.specs.declared.field.Symbol.{Symbol}
use Rattle.rz_types_fields.proofs.SymbolPlaces.{found_name}
use Rattle.rz_types_fields.proofs.symbol_list.name_in.Goals as goal

pub returns : goal.returns
returns c =
    c.name_at.ensures
    ∙ ap (λ (place : Option ℕ). option_map (λ (s : Symbol). s.name) (option_and_then (slice_get c.args.symbols.now) place))
    (c.place_of_number.ensures ∙ c.requires.places c.args.number)
    ∙ found_name c.args.symbols.now (nat_abs c.args.index.now.width) c.args.number c.args.symbols.now
