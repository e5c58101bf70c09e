use Rattle.std.proofs.Common.{◌≡◌, ◌≤◌, ◌-◌, ◌++◌, drop, length}
use Rattle.rz_tools.proofs.types.names_behind.Given as goal

abbrev pub invariant-loop-k : goal.invariant-loop-k
invariant-loop-k l = record {
  within : l.k ≤ length l.names;
  so_far : l.behind ++ drop l.k l.names ≡ drop l.count l.names;
}

abbrev pub decreases-loop-k : goal.decreases-loop-k
decreases-loop-k l = length l.names - l.k
