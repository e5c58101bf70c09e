use Rattle.std.proofs.Common.{◌≡◌, take}
use Rattle.rz_pre.proofs.copy.copy_all.Given as goal

abbrev pub invariant-loop-token : goal.invariant-loop-token
invariant-loop-token l = l.copy ≡ take l.token-index l.tokens
