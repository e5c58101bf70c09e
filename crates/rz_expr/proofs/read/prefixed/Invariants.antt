use Rattle.std.proofs.Common.{◌≡◌, length}
use Rattle.rz_expr.specs.Reading.{prefixed_term}
use Rattle.rz_expr.specs.Term.{term_of}
use Rattle.rz_expr.proofs.read.prefixed.Given as goal

abbrev pub invariant-loop-last : goal.invariant-loop-last
invariant-loop-last l = prefixed_term l.left (term_of l.expr) ≡ prefixed_term l.signs (term_of l.fn.operand)

abbrev pub decreases-loop-last : goal.decreases-loop-last
decreases-loop-last l = length l.left
