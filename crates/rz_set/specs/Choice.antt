-- Which resources of a list a statement is for. (MPW Rez.)
use Rattle.std.specs.Prelude.{ℕ, ℤ, int_le, ◌==◌, ◌&&◌, Bool, true, false, not, if◌then◌else◌, List, [], ◌∷◌, filter, Option, Some, None}
use Rattle.std.specs.List.{list_any}
use Rattle.std.specs.Str.{bytes_eq}
use Rattle.rz_core.specs.Resources.{same_key}
use Rattle.rz_core.specs.declared.resource.OsType.{OsType}
use Rattle.rz_core.specs.declared.resource.Resource.{Resource}
use Rattle.rz_set.specs.ResSet.{found, has_key}
use Rattle.rz_set.specs.declared.pick.Choice.{Choice}
use Rattle.rz_set.specs.declared.pick.Choice.TheVariants as choices
use Rattle.rz_set.specs.declared.pick.Pick.{Pick}
use Rattle.rz_set.specs.declared.pick.Pick.TheVariants.{All, Id, Range, Name}
use Rattle.rz_set.specs.declared.pick.SetFault.{SetFault}
use Rattle.rz_set.specs.declared.pick.SetFault.TheVariants.{NoSuchResource}

-- the resource is of this type
abbrev pub is_of : OsType → Resource → Bool
is_of kind r = kind.code == r.kind.code

-- the resource is of this type and has exactly this name
abbrev pub has_name : OsType → List ℕ → Resource → Bool
has_name kind name r = is_of kind r && bytes_eq name r.name

-- the first resource of a list that is of this type and has this name
abbrev pub found_name : OsType → List ℕ → List Resource → Option Resource
found_name kind name [] = None
found_name kind name (r ∷ rs) = if has_name kind name r then Some r else found_name kind name rs

-- the one that a pick by id or name finds in a list
abbrev pub picked : OsType → Pick → List Resource → Option Resource
picked kind All list = None
picked kind (Id id) list = found kind id list
picked kind (Range first last) list = None
picked kind (Name name) list = found_name kind name list

-- the resource has the type and id of this one, if there is one
abbrev pub is_that : Option Resource → Resource → Bool
is_that None r = false
is_that (Some one) r = same_key one r

-- a pick of a type chooses this resource of a list: by name it is the first one with that name
abbrev pub chooses : OsType → Pick → List Resource → Resource → Bool
chooses kind All list r = is_of kind r
chooses kind (Id id) list r = has_key kind id r
chooses kind (Range first last) list r = is_of kind r && (int_le first r.id && int_le r.id last)
chooses kind (Name name) list r = is_that (found_name kind name list) r

-- the resources of a list that a pick of a type chooses, in order
abbrev pub chosen : OsType → Pick → List Resource → List Resource
chosen kind pick list = filter (chooses kind pick list) list

-- the pick is for one resource
abbrev pub is_for_one : Pick → Bool
is_for_one All = false
is_for_one (Id id) = true
is_for_one (Range first last) = false
is_for_one (Name name) = true

-- there is no such resource: the pick is by id or name, and chooses none of the list
abbrev pub missing : OsType → Pick → List Resource → Option SetFault
missing kind pick list =
    if is_for_one pick && not (list_any (chooses kind pick list) list) then Some (NoSuchResource kind) else None

-- the resources of a list that are included, in order
abbrev pub included : Choice → List Resource → List Resource
included choices.All list = list
included (choices.Except kind) list = filter (λ r. not (is_of kind r)) list
included (choices.Chosen kind pick) list = chosen kind pick list

-- there is no such resource to include
abbrev pub missing_choice : Choice → List Resource → Option SetFault
missing_choice choices.All list = None
missing_choice (choices.Except kind) list = None
missing_choice (choices.Chosen kind pick) list = missing kind pick list

-- The key of the one that a choice finds.

-- the type and the id of a resource
abbrev pub key_pair : Resource → OsType × ℤ
key_pair r = (r.kind, r.id)

-- the one that the pick by id or name of a choice finds in a list
abbrev pub the_choice : Choice → List Resource → Option Resource
the_choice choices.All list = None
the_choice (choices.Except kind) list = None
the_choice (choices.Chosen kind pick) list = picked kind pick list
