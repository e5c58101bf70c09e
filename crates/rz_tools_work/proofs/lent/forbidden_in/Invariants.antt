use Rattle.std.proofs.Common.{◌≡◌, filter, length, map}
use Rattle.std.specs.List.{flat_map}
use Rattle.std.specs.Option.{option_copied}
use Rattle.rz_set.specs.After.{forbidden, replaced, under}
use Rattle.rz_set.specs.Wanted.{is_included}
use Rattle.rz_tools_work.proofs.lent.forbidden_in.Given as goal

abbrev pub invariant-loop-one : goal.invariant-loop-one
invariant-loop-one l =
    forbidden l.over (flat_map (replaced l.resources) (map (under (option_copied l.head)) (filter (is_included l.included) l.walk)))
    ≡ forbidden l.over (flat_map (replaced l.resources) (map (under (option_copied l.head)) (filter (is_included l.included) l.initial.walk)))

abbrev pub decreases-loop-one : goal.decreases-loop-one
decreases-loop-one l = length l.walk
