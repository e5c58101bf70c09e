use Rattle.std.proofs.Common.{sym, ◌∙◌}
use Rattle.rz_types_fields.specs.Known.{met}
use Rattle.rz_types_fields.specs.Sees.{marked}
use Rattle.rz_unlay_pieces.specs.Seen.{sight_at}
use Rattle.rz_unlay_pieces.proofs.Lateness.{later_late, one_late}
use Rattle.rz_unlay_pieces.proofs.late.is_one_late.Goals as goal

pub returns-then-is_late : goal.returns-then-is_late
returns-then-is_late c =
    one_late (met c.args.learnt.now.notes.items) (marked c.args.at c.args.learnt.now.marks) (sight_at c.args.spot.now c.args.learnt.now c.args.at) c.args.exprs.now c.loop-expr.expr-index c.expr-item.result c.loop-expr-test.true c.expr-item.is _
    c.loop-expr.invariant (sym c.if-is_late.true ∙ c.is_late.ensures)

pub loop-expr-preserved : goal.loop-expr-preserved
loop-expr-preserved c =
    later_late (met c.args.learnt.now.notes.items) (marked c.args.at c.args.learnt.now.marks) (sight_at c.args.spot.now c.args.learnt.now c.args.at) c.args.exprs.now c.loop-expr.expr-index c.expr-item.result c.loop-expr-test.true c.expr-item.is _
    c.loop-expr.invariant (sym c.if-is_late.false ∙ c.is_late.ensures)
