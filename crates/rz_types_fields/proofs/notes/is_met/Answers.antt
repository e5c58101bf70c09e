use Rattle.std.proofs.Common.{sym, ap, ◌∙◌}
use Rattle.std.specs.Option.{is_some}
use Rattle.std.specs.Prelude.{option_map}
use Rattle.rz_expr.specs.NameKey.{key_of}
use Rattle.rz_types_fields.proofs.Noting.{met_none, met_said}
use Rattle.rz_types_fields.proofs.notes.is_met.Goals as goal

pub returns-in-Some : goal.returns-in-Some
returns-in-Some c =
    c.meets.ensures
    ∙ met_said c.args.notes.now.items (key_of c.args.key) c.in-Some.note.now (sym c.newest.ensures ∙ ap (option_map (λ note. note.now)) c.in-Some.is)

pub returns-in-None : goal.returns-in-None
returns-in-None c =
    c.is_some.ensures ∙ ap is_some c.value_outside.ensures
    ∙ met_none c.args.notes.now.items (key_of c.args.key) (sym c.newest.ensures ∙ ap (option_map (λ note. note.now)) c.in-None.is)
