-- What a change of resources leaves of a list, or why it is refused. (MPW Rez.)
use Rattle.std.specs.Prelude.{◌||◌, Bool, not, is_some, if◌then◌else◌, IsTrue, List, [], ◌∷◌, filter, map, Option, None}
use Rattle.std.specs.List.{flat_map, list_any}
use Rattle.std.specs.Option.{unwrap_or}
use Rattle.std.specs.declared.result.Result.{Result}
use Rattle.rz_core.specs.Lists.{or_else, unless_fault}
use Rattle.rz_core.specs.Resources.{same_key}
use Rattle.rz_core.specs.declared.resource.OsType.{OsType}
use Rattle.rz_core.specs.declared.resource.Resource.{Resource}
use Rattle.rz_set.specs.After.{as_list, forbidden, under_head}
use Rattle.rz_set.specs.Choice.{chooses, chosen, is_for_one, missing}
use Rattle.rz_set.specs.ResSet.{found}
use Rattle.rz_set.specs.declared.pick.Head.{Head}
use Rattle.rz_set.specs.declared.pick.Pick.{Pick}
use Rattle.rz_set.specs.declared.pick.SetFault.{SetFault}

-- a head with an id is for one resource: it comes only with a pick by id or name
abbrev pub MayHaveId : Pick → Head → Type 0
MayHaveId pick head = IsTrue (is_for_one pick || not (is_some head.id))

-- The list afterwards, by a test for the chosen ones.

-- a chosen one of a list has the type and id of this resource when it has come under the head
abbrev pub is_taken : (Resource → Bool) → Head → List Resource → Resource → Bool
is_taken test head list r = list_any (λ new. same_key new r) (map (under_head head) (filter test list))

-- what stands in the place of a resource: a chosen one comes under the head, and another one with the type and id of
-- one that has come under it is taken out
abbrev pub in_place_of : (Resource → Bool) → Head → List Resource → Resource → List Resource
in_place_of test head list r =
    if test r then under_head head r ∷ [] else if is_taken test head list r then [] else r ∷ []

abbrev pub changed : (Resource → Bool) → Head → List Resource → List Resource
changed test head list = flat_map (in_place_of test head list) list

-- the same where one resource is changed alone
abbrev pub change_one : Head → List Resource → Resource → List Resource
change_one head list one = changed (same_key one) head list

-- Protected ones.

-- the other resource of a list that has the type and id of one that comes under the head, if there is one
abbrev pub other : Head → List Resource → Resource → Option Resource
other head list one =
    if same_key (under_head head one) one then None else found head.kind (unwrap_or head.id one.id) list

-- a resource that comes under the head, and after it the one that is taken out for it
abbrev pub with_other : Head → List Resource → Resource → List Resource
with_other head list one = one ∷ as_list (other head list one)

-- the chosen ones are changed, if none of them and none that is taken out is protected
abbrev pub after_change : OsType → Pick → Head → Bool → List Resource → Result (List Resource) SetFault
after_change kind pick head over list =
    unless_fault (or_else (missing kind pick list) (forbidden over (flat_map (with_other head list) (chosen kind pick list))))
    (changed (chooses kind pick list) head list)
