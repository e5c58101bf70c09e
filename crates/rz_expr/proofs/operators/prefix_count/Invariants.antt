use Rattle.std.proofs.Common.{◌≡◌, ◌+◌, length}
use Rattle.rz_expr.specs.Reading.{prefix_count}
use Rattle.rz_expr.proofs.operators.prefix_count.Given as goal

abbrev pub invariant-loop-rest : goal.invariant-loop-rest
invariant-loop-rest l = record {
  count : prefix_count l.tokens ≡ l.count + prefix_count l.rest;
  size : length l.tokens ≡ l.count + length l.rest;
}

abbrev pub decreases-loop-rest : goal.decreases-loop-rest
decreases-loop-rest l = length l.rest
