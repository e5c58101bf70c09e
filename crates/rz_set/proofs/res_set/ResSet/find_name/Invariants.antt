use Rattle.std.proofs.Common.{◌≡◌}
use Rattle.rz_set.specs.Choice.{found_name}
use Rattle.rz_set.proofs.res_set.ResSet.find_name.Given as goal

abbrev pub invariant-loop-resource : goal.invariant-loop-resource
invariant-loop-resource l = found_name l.fn.kind l.fn.name l.resource-iterator ≡ found_name l.fn.kind l.fn.name l.fn.self
