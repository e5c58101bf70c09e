use Rattle.std.proofs.Common.{◌≡◌, ◌++◌, length}
use Rattle.rz_stmt_data.specs.Files.{texts_at_front}
use Rattle.rz_stmt_data.proofs.files.texts_at_front.Given as goal

abbrev pub invariant-loop-first : goal.invariant-loop-first
invariant-loop-first l = texts_at_front l.tokens ≡ l.bytes ++ texts_at_front l.rest

abbrev pub decreases-loop-first : goal.decreases-loop-first
decreases-loop-first l = length l.rest
