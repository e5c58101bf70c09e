use Rattle.std.proofs.Common.{◌≡◌, filter}
use Rattle.rz_set.specs.After.{first_protected}
use Rattle.rz_set.specs.Wanted.{is_wanted}
use Rattle.rz_set.proofs.res_set.ResSet.forbidden_among_all.Given as goal

abbrev pub invariant-loop-resource : goal.invariant-loop-resource
invariant-loop-resource l =
    first_protected (filter (is_wanted l.fn.wanted) l.resource-iterator)
    ≡ first_protected (filter (is_wanted l.fn.wanted) l.fn.self)
