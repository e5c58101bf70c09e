use Rattle.std.proofs.Common.{sym, ap, ◌∙◌}
use Rattle.std.specs.Prelude.{option_map}
use Rattle.rz_expr.specs.NameKey.{key_of}
use Rattle.rz_types_fields.proofs.Noting.{value_none, value_said}
use Rattle.rz_types_fields.proofs.notes.value_noted.Goals as goal

pub returns-in-Some : goal.returns-in-Some
returns-in-Some c =
    c.said.ensures
    ∙ value_said c.args.notes.now.items (key_of c.args.key) c.in-Some.note.now (sym c.newest.ensures ∙ ap (option_map (λ note. note.now)) c.in-Some.is)

pub returns-in-None : goal.returns-in-None
returns-in-None c =
    c.value_outside.ensures
    ∙ value_none c.args.notes.now.items (key_of c.args.key) (sym c.newest.ensures ∙ ap (option_map (λ note. note.now)) c.in-None.is)
