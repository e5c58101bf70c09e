use Rattle.std.proofs.Common.{◌≡◌, ◌≤◌, ◌+◌, ◌++◌, length}
use Rattle.std.specs.List.{flat_map}
use Rattle.rz_fork.specs.Breaks.{breaks}
use Rattle.rz_told.specs.BreaksText.{line_of}
use Rattle.rz_told.proofs.breaks.breaks_text.Given as goal

abbrev pub invariant-loop-fault : goal.invariant-loop-fault
invariant-loop-fault l = record {
  lines : l.text ++ flat_map line_of l.det ≡ flat_map line_of (breaks l.fork);
  counted : l.count + length l.det ≡ length (breaks l.fork);
  within : l.count ≤ length l.text;
}

abbrev pub decreases-loop-fault : goal.decreases-loop-fault
decreases-loop-fault l = length l.det
