use Rattle.std.proofs.Common.{◌≡◌, length}
use Rattle.rz_set.specs.ResSet.{found}
use Rattle.rz_tools_values.proofs.lent.found_in.Given as goal

abbrev pub invariant-loop-one : goal.invariant-loop-one
invariant-loop-one l = found l.kind l.id l.walk ≡ found l.kind l.id l.fork.list

abbrev pub decreases-loop-one : goal.decreases-loop-one
decreases-loop-one l = length l.walk
