use Rattle.std.proofs.Common.{◌≡◌, length}
use Rattle.rz_set.specs.Choice.{found_name}
use Rattle.rz_tools_values.proofs.lent.found_name_in.Given as goal

abbrev pub invariant-loop-one : goal.invariant-loop-one
invariant-loop-one l = found_name l.kind l.name l.walk ≡ found_name l.kind l.name l.fork.list

abbrev pub decreases-loop-one : goal.decreases-loop-one
decreases-loop-one l = length l.walk
