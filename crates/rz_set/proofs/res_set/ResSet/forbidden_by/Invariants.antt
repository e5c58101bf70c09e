use Rattle.std.proofs.Common.{◌≡◌, drop}
use Rattle.std.specs.List.{flat_map}
use Rattle.rz_set.specs.After.{forbidden, replaced}
use Rattle.rz_set.proofs.res_set.ResSet.forbidden_by.Given as goal

abbrev pub invariant-loop-resource : goal.invariant-loop-resource
invariant-loop-resource l =
    forbidden l.over (flat_map (replaced l.fn.self) (drop l.resource-index l.news))
    ≡ forbidden l.over (flat_map (replaced l.fn.self) l.news)
