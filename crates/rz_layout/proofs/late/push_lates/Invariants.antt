use Rattle.std.proofs.Common.{◌≡◌, ◌++◌}
use Rattle.rz_layout.proofs.late.push_lates.Given as goal

abbrev pub invariant-loop-late : goal.invariant-loop-late
invariant-loop-late l = l.into ≡ l.initial.into ++ l.yielded
