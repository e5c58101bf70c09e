use Rattle.std.proofs.Common.{◌≡◌, length}
use Rattle.rz_lex.specs.Scan.{after_run}
use Rattle.rz_lex.proofs.extent.after_run.Given as goal

abbrev pub invariant-loop-rest : goal.invariant-loop-rest
invariant-loop-rest l = after_run l.rest ≡ after_run l.fn.start

abbrev pub decreases-loop-rest : goal.decreases-loop-rest
decreases-loop-rest l = length l.rest
