use Rattle.rz_expr.specs.Term.{term_of}
use Rattle.rz_expr.specs.Unvalued.{fault_of}
use Rattle.rz_types_fields.specs.Known.{met}
use Rattle.rz_unlay_pieces.specs.Seen.{sight_at}
use Rattle.rz_unlay_pieces.proofs.Lateness.{late_named, late_unvalued}
use Rattle.rz_unlay_pieces.proofs.late.is_late.Goals as goal

pub returns-in-Ok : goal.returns-in-Ok
returns-in-Ok c =
    late_named (met c.args.learnt.now.notes.items) c.args.learnt.now.marks c.args.at (sight_at c.args.spot.now c.args.learnt.now c.args.at) (term_of c.args.expr.now) c.in-Ok.field-0 c.names_later.result c.in-Ok.ensures
    c.names_later.ensures

pub returns-in-Err : goal.returns-in-Err
returns-in-Err c =
    late_unvalued (met c.args.learnt.now.notes.items) c.args.learnt.now.marks c.args.at (sight_at c.args.spot.now c.args.learnt.now c.args.at) (term_of c.args.expr.now) (fault_of c.in-Err.field-0) c.in-Err.ensures
