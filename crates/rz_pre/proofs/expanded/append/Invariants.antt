use Rattle.std.proofs.Common.{◌≡◌, ◌++◌}
use Rattle.rz_pre.proofs.expanded.append.Given as goal

abbrev pub invariant-loop-token : goal.invariant-loop-token
invariant-loop-token l = l.tokens ≡ l.initial.tokens ++ l.yielded
