use Rattle.std.proofs.Common.{◌≡◌, drop}
use Rattle.rz_set.specs.Choice.{found_name}
use Rattle.rz_set.proofs.among.find_name_in.Given as goal

abbrev pub invariant-loop-resource : goal.invariant-loop-resource
invariant-loop-resource l = found_name l.kind l.name (drop l.resource-index l.list) ≡ found_name l.kind l.name l.list
