use Rattle.std.proofs.Common.{length}
use Rattle.rz_stmt_brackets.proofs.Cut.{Cutting}
use Rattle.rz_stmt_brackets.proofs.cutting.statements.Given as goal

abbrev pub invariant-loop-rest : goal.invariant-loop-rest
invariant-loop-rest l = Cutting l.tokens l.rest l.start l.spans

abbrev pub decreases-loop-rest : goal.decreases-loop-rest
decreases-loop-rest l = length l.rest
