use Rattle.std.proofs.Common.{◌∙◌}
use Rattle.rz_layout.specs.Laid.{draft_of}
use Rattle.rz_layout.proofs.Expressions.{expression_more, expression_refused}
use Rattle.rz_layout.proofs.points.lay_fixed.Goals as goal

pub returns-in-Err-clause-laid : goal.returns-in-Err-clause-laid
returns-in-Err-clause-laid c =
    expression_refused c.args.facts.now c.args.exprs.now c.loop-expr.expr-index c.expr-item.result c.loop-expr-test.true c.expr-item.is (draft_of c.loop-expr.laid) _
    c.loop-expr.invariant.laid c.in-Err.stop (draft_of c.lay_expression.new.laid) c.in-Err.ensures.laid (draft_of c.lay_expression.new.laid)

pub loop-expr-preserved : goal.loop-expr-preserved
loop-expr-preserved c = record {
  laid = expression_more c.args.facts.now c.args.exprs.now c.loop-expr.expr-index c.expr-item.result c.loop-expr-test.true c.expr-item.is (draft_of c.loop-expr.laid) _
      c.loop-expr.invariant.laid (draft_of c.lay_expression.new.laid) c.in-Ok.ensures.laid;
  short = c.in-Ok.ensures.short;
  notes = c.in-Ok.ensures.notes ∙ c.loop-expr.invariant.notes;
}
