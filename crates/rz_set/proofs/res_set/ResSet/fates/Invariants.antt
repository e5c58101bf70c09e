use Rattle.std.proofs.Common.{◌≡◌, ◌++◌, map}
use Rattle.rz_set.specs.Fates.{fate_of}
use Rattle.rz_set.specs.Wanted.{is_wanted}
use Rattle.rz_set.proofs.res_set.ResSet.fates.Given as goal

abbrev pub invariant-loop-resource : goal.invariant-loop-resource
invariant-loop-resource l =
    l.fates.items ++ map (fate_of (is_wanted l.fn.wanted) l.fn.head l.fn.self) l.resource-iterator
    ≡ map (fate_of (is_wanted l.fn.wanted) l.fn.head l.fn.self) l.fn.self
