use Rattle.std.proofs.Common.{◌≡◌, ◌++◌, replicate}
use Rattle.rz_core.proofs.number.append_zeros.Given as goal

abbrev pub invariant-loop : goal.invariant-loop
invariant-loop l = l.out ≡ l.initial.out ++ replicate l.counter 0
