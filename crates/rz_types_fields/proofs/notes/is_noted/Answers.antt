use Rattle.std.proofs.Common.{sym, ap, ◌∙◌}
use Rattle.std.specs.Option.{is_some}
use Rattle.std.specs.Prelude.{option_map}
use Rattle.rz_expr.specs.NameKey.{key_of}
use Rattle.rz_types_fields.proofs.Noting.{noted_none, noted_said}
use Rattle.rz_types_fields.proofs.notes.is_noted.Goals as goal

pub returns-in-Some : goal.returns-in-Some
returns-in-Some c =
    c.is_some.ensures ∙ ap is_some c.said.ensures
    ∙ noted_said c.args.notes.now.items (key_of c.args.key) c.in-Some.note.now (sym c.newest.ensures ∙ ap (option_map (λ note. note.now)) c.in-Some.is)

pub returns-in-None : goal.returns-in-None
returns-in-None c =
    noted_none c.args.notes.now.items (key_of c.args.key) (sym c.newest.ensures ∙ ap (option_map (λ note. note.now)) c.in-None.is)
