use Rattle.std.proofs.Common.{◌≡◌, ◌≤◌, ◌-◌, drop}
use Rattle.std.specs.List.{flat_map}
use Rattle.rz_fork.specs.Breaks.{listed}
use Rattle.rz_told.proofs.det.next_head.Given as goal

abbrev pub invariant-loop-begun : goal.invariant-loop-begun
invariant-loop-begun l = record {
  same : flat_map listed (drop l.initial.begun l.faults) ≡ flat_map listed (drop l.begun l.faults);
  begun : l.begun ≤ 6;
}

abbrev pub decreases-loop-begun : goal.decreases-loop-begun
decreases-loop-begun l = 6 - l.begun
