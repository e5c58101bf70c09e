-- How the code holds what a change makes of the resources: by a fate of each.
use Rattle.std.specs.Prelude.{◌≡◌, ℤ, ◌==◌, ◌&&◌, Bool, true, if◌then◌else◌, List, [], ◌∷◌, ◌++◌, Option, Some, None}
use Rattle.std.specs.Int.{cast_unsigned, w16}
use Rattle.std.specs.List.{list_any}
use Rattle.std.specs.Option.{unwrap_or}
use Rattle.rz_core.specs.Resources.{same_key}
use Rattle.rz_core.specs.declared.resource.OsType.{OsType}
use Rattle.rz_core.specs.declared.resource.Resource.{Resource}
use Rattle.rz_set.specs.After.{as_list, under_head}
use Rattle.rz_set.specs.Change.{is_taken}
use Rattle.rz_set.specs.declared.change.Fate.{Fate}
use Rattle.rz_set.specs.declared.change.Fate.TheVariants.{Stays, GivesWay, ComesUnder}
use Rattle.rz_set.specs.declared.pick.Head.{Head}

-- chosen ones with the same type and id under the head are the same without it
abbrev pub StayApart : (Resource → Bool) → Head → Type 0
StayApart test head = (a b : Resource) → test a ≡ true → test b ≡ true → same_key (under_head head a) (under_head head b) ≡ true → same_key a b ≡ true

-- an id is for a chosen one of the list
abbrev pub IsForOne : (Resource → Bool) → List Resource → Option ℤ → Type 0
IsForOne test list None = Unit {0}
IsForOne test list (Some id) = list_any test list ≡ true

-- a head leaves the resource with this type and id both of them
abbrev pub keeps_key : Head → OsType → ℤ → Bool
keeps_key head kind id = (head.kind.code == kind.code) && (cast_unsigned w16 (unwrap_or head.id id) == cast_unsigned w16 id)

abbrev pub fate_of : (Resource → Bool) → Head → List Resource → Resource → Fate
fate_of test head list r = if test r then ComesUnder head else if is_taken test head list r then GivesWay else Stays

abbrev pub left : Fate → Resource → Option Resource
left Stays r = Some r
left GivesWay r = None
left (ComesUnder head) r = Some (under_head head r)

-- what the fates leave of the resources, in order
abbrev pub all_left : List Fate → List Resource → List Resource
all_left [] rs = rs
all_left (fate ∷ fates) [] = []
all_left (fate ∷ fates) (r ∷ rs) = as_list (left fate r) ++ all_left fates rs
