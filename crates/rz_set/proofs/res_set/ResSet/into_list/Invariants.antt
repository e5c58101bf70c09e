use Rattle.std.proofs.Common.{◌≡◌, ◌++◌}
use Rattle.rz_set.proofs.res_set.ResSet.into_list.Given as goal

abbrev pub invariant-loop-resource : goal.invariant-loop-resource
invariant-loop-resource l = l.list ++ l.resource-iterator ≡ l.fn.self
