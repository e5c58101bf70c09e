use Rattle.std.proofs.Common.{◌≡◌, ◌++◌, replicate}
use Rattle.rz_hqx.proofs.decoded.append_copies.Given as goal

abbrev pub invariant-loop : goal.invariant-loop
invariant-loop l = l.out ≡ l.initial.out ++ replicate l.counter l.last
