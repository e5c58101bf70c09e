use Rattle.std.proofs.Common.{rules, Some, w32, ap, ◌∙◌}
use Rattle.std.proofs.lemmas.Int.{to_z-of_z}
use Rattle.rz_expr.specs.Term.{term_of}
use Rattle.rz_expr.specs.Unvalued.{fault_of}
use Rattle.rz_types_fields.specs.Known.{met}
use Rattle.rz_unlay_pieces.specs.Seen.{sight_at}
use Rattle.rz_unlay_pieces.proofs.Lateness.{late_named, late_unvalued, value_beside}
use Rattle.rz_unlay_pieces.proofs.late.value_at.Goals as goal

pub returns-in-Ok-clause-value : goal.returns-in-Ok-clause-value
returns-in-Ok-clause-value c =
    ap Some (to_z-of_z w32 c.in-Ok.value (search rules))
    ∙ value_beside c.args.learnt.now.marks (sight_at c.args.spot.now c.args.learnt.now c.args.at) (term_of c.args.expr.now) c.in-Ok.value c.in-Ok.ensures

pub returns-in-Ok-clause-late : goal.returns-in-Ok-clause-late
returns-in-Ok-clause-late c =
    late_named (met c.args.learnt.now.notes.items) c.args.learnt.now.marks c.args.at (sight_at c.args.spot.now c.args.learnt.now c.args.at) (term_of c.args.expr.now) c.in-Ok.value c.names_later.result c.in-Ok.ensures
    c.names_later.ensures

pub returns-in-Some-clause-late : goal.returns-in-Some-clause-late
returns-in-Some-clause-late c =
    late_unvalued (met c.args.learnt.now.notes.items) c.args.learnt.now.marks c.args.at (sight_at c.args.spot.now c.args.learnt.now c.args.at) (term_of c.args.expr.now) (fault_of c.in-Err.field-0) c.in-Err.ensures
