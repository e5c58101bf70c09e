use Rattle.std.proofs.Common.{◌≡◌, ◌≤◌, length}
use Rattle.rz_hqx.specs.Text.{behind_line}
use Rattle.rz_hqx.proofs.text.behind_line.Given as goal

abbrev pub invariant-loop-rest : goal.invariant-loop-rest
invariant-loop-rest l = record {
  so_far : behind_line l.rest ≡ behind_line l.bytes;
  within : length l.rest ≤ length l.bytes;
}

abbrev pub decreases-loop-rest : goal.decreases-loop-rest
decreases-loop-rest l = length l.rest
