use Rattle.std.proofs.Common.{◌≡◌, length}
use Rattle.rz_stmt_data.specs.Files.{behind_texts}
use Rattle.rz_stmt_data.proofs.files.behind_texts.Given as goal

abbrev pub invariant-loop-first : goal.invariant-loop-first
invariant-loop-first l = behind_texts l.tokens ≡ behind_texts l.rest

abbrev pub decreases-loop-first : goal.decreases-loop-first
decreases-loop-first l = length l.rest
