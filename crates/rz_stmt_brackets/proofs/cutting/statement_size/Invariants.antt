use Rattle.std.proofs.Common.{◌≡◌, ◌+◌, ◌-◌, ◌≤◌, drop, length}
use Rattle.rz_stmt_brackets.specs.Cutting.{size_of}
use Rattle.rz_stmt_brackets.proofs.cutting.statement_size.Given as goal

abbrev pub invariant-loop-size : goal.invariant-loop-size
invariant-loop-size l = record {
  counted : size_of 0 l.tokens ≡ l.size + size_of l.depth (drop l.size l.tokens);
  shallow : l.depth ≤ l.size;
  within : l.size ≤ length l.tokens;
}

abbrev pub decreases-loop-size : goal.decreases-loop-size
decreases-loop-size l = length l.tokens - l.size
