use Rattle.std.proofs.Common.{◌≡◌, ◌++◌, filter, length, map}
use Rattle.std.specs.Option.{option_copied}
use Rattle.rz_set.specs.After.{under}
use Rattle.rz_set.specs.Wanted.{is_included}
use Rattle.rz_tools_work.proofs.lent.copies.Given as goal

abbrev pub invariant-loop-one : goal.invariant-loop-one
invariant-loop-one l =
    l.news.items ++ map (under (option_copied l.head)) (filter (is_included l.included) l.walk)
    ≡ map (under (option_copied l.head)) (filter (is_included l.included) l.initial.walk)

abbrev pub decreases-loop-one : goal.decreases-loop-one
decreases-loop-one l = length l.walk
