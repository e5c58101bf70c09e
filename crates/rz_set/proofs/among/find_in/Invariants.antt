use Rattle.std.proofs.Common.{◌≡◌, drop}
use Rattle.rz_set.specs.ResSet.{found}
use Rattle.rz_set.proofs.among.find_in.Given as goal

abbrev pub invariant-loop-resource : goal.invariant-loop-resource
invariant-loop-resource l = found l.kind l.id (drop l.resource-index l.list) ≡ found l.kind l.id l.list
