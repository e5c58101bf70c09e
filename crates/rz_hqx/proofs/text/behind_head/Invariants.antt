use Rattle.std.proofs.Common.{◌≡◌, ◌≤◌, length}
use Rattle.rz_hqx.specs.Text.{behind_head}
use Rattle.rz_hqx.proofs.Spoken.{found, lines_from}
use Rattle.rz_hqx.proofs.text.behind_head.Given as goal

abbrev pub invariant-loop-rest : goal.invariant-loop-rest
invariant-loop-rest l = record {
  so_far : found (lines_from l.first l.rest) ≡ behind_head l.bytes;
  within : length l.rest ≤ length l.bytes;
}

abbrev pub decreases-loop-rest : goal.decreases-loop-rest
decreases-loop-rest l = length l.rest
