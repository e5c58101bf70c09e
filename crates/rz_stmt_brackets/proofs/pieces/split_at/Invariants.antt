use Rattle.std.proofs.Common.{◌≡◌, ◌≤◌, ◌+◌, false, drop, length, take}
use Rattle.rz_stmt_brackets.specs.Pieces.{has_divider}
use Rattle.rz_stmt_brackets.specs.Statements.{open_behind_all}
use Rattle.rz_stmt_brackets.proofs.pieces.split_at.Given as goal

abbrev pub invariant-loop-first : goal.invariant-loop-first
invariant-loop-first l = record {
  none : has_divider l.divider 0 (take l.size l.tokens) ≡ false;
  deep : l.depth ≡ open_behind_all (take l.size l.tokens) 0;
  behind : drop l.size l.tokens ≡ l.rest;
  within : l.size + length l.rest ≤ length l.tokens;
  shallow : l.depth + length l.rest ≤ length l.tokens;
}

abbrev pub decreases-loop-first : goal.decreases-loop-first
decreases-loop-first l = length l.rest
