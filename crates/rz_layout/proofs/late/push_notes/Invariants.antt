use Rattle.std.proofs.Common.{◌≡◌, ◌++◌}
use Rattle.rz_layout.proofs.late.push_notes.Given as goal

abbrev pub invariant-loop-note : goal.invariant-loop-note
invariant-loop-note l = l.into.items ≡ l.initial.into.items ++ l.yielded
