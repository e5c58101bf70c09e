use Rattle.std.proofs.Common.{◌≡◌, ◌++◌, length}
use Rattle.rz_hqx.specs.Letters.{sixes}
use Rattle.rz_hqx.proofs.letters.sixes.Given as goal

abbrev pub invariant-loop-rest : goal.invariant-loop-rest
invariant-loop-rest l = l.out ++ sixes l.rest ≡ sixes l.bytes

abbrev pub decreases-loop-rest : goal.decreases-loop-rest
decreases-loop-rest l = length l.rest
