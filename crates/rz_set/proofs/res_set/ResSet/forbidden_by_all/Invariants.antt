use Rattle.std.proofs.Common.{◌≡◌, filter, flat_map}
use Rattle.rz_set.specs.After.{forbidden}
use Rattle.rz_set.specs.Change.{with_other}
use Rattle.rz_set.specs.Wanted.{is_wanted}
use Rattle.rz_set.proofs.res_set.ResSet.forbidden_by_all.Given as goal

abbrev pub invariant-loop-resource : goal.invariant-loop-resource
invariant-loop-resource l =
    forbidden l.fn.over (flat_map (with_other l.fn.head l.fn.self) (filter (is_wanted l.fn.wanted) l.resource-iterator))
    ≡ forbidden l.fn.over (flat_map (with_other l.fn.head l.fn.self) (filter (is_wanted l.fn.wanted) l.fn.self))
