use Rattle.std.proofs.Common.{◌≡◌, ◌≤◌, length}
use Rattle.rz_hqx.specs.Text.{behind_colon}
use Rattle.rz_hqx.proofs.text.behind_colon.Given as goal

abbrev pub invariant-loop-rest : goal.invariant-loop-rest
invariant-loop-rest l = record {
  so_far : behind_colon l.rest ≡ behind_colon l.bytes;
  within : length l.rest ≤ length l.bytes;
}

abbrev pub decreases-loop-rest : goal.decreases-loop-rest
decreases-loop-rest l = length l.rest
