use Rattle.std.proofs.Common.{◌≡◌, ◌++◌, drop, filter, map}
use Rattle.std.specs.Option.{option_copied}
use Rattle.rz_set.specs.After.{under}
use Rattle.rz_set.specs.Wanted.{is_included}
use Rattle.rz_set.proofs.include.copy_all.Given as goal

abbrev pub invariant-loop-resource : goal.invariant-loop-resource
invariant-loop-resource l =
    l.news.items ++ map (under (option_copied l.head)) (filter (is_included l.included) (drop l.resource-index l.source))
    ≡ map (under (option_copied l.head)) (filter (is_included l.included) l.source)
