use Rattle.std.proofs.Common.{length}
use Rattle.rz_stmt.proofs.First.{IsOpen}
use Rattle.rz_stmt.proofs.next.next_statement.Given as goal

abbrev pub invariant-loop-tokens : goal.invariant-loop-tokens
invariant-loop-tokens l = IsOpen l.initial.reader l.tokens l.reader l.depth

abbrev pub decreases-loop-tokens : goal.decreases-loop-tokens
decreases-loop-tokens l = length l.reader
