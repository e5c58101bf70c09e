use Rattle.std.proofs.Common.{◌≡◌, ◌++◌, ◌≤◌, drop}
use Rattle.rz_hqx.specs.Runs.{packed}
use Rattle.rz_hqx.proofs.Writing.{packed_behind}
use Rattle.rz_hqx.proofs.coded.write_runs.Given as goal

abbrev pub invariant-loop-next : goal.invariant-loop-next
invariant-loop-next l = record {
  so_far : l.out ++ packed_behind l.byte l.count (drop l.next-index l.rest) ≡ packed l.fn.bytes;
  some : 1 ≤ l.count;
}
