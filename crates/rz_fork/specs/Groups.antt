-- Resources by type, as the code holds them.
use Rattle.std.specs.Prelude.{◌≡◌, ℕ, ◌+◌, ◌*◌, ◌^◌, ◌<◌, FitsSigned, List, length, map}
use Rattle.std.specs.Int.{w16}
use Rattle.std.specs.Borrow.{Bor}
use Rattle.std.specs.List.{flat_map, AllByRecursion}
use Rattle.rz_core.specs.Lists.{each_with_front}
use Rattle.rz_core.specs.declared.resource.Resource.{Resource}
use Rattle.rz_fork.specs.declared.group.Group.{Group}
use Rattle.rz_fork.specs.Image.{kinds_of, group_of, name_list, entry_of, lists_with, tail_with, image_with}

-- the resources that references refer to
abbrev pub shown : List (Bor Resource) → List Resource
shown rs = map (λ r. r.now) rs

-- the resources of a group
abbrev pub members_of : Group → List Resource
members_of group = shown group.members.items

-- the groups are those of the list, in the order of its types
pub record AreGroups (list : List Resource) (groups : List Group) : Type 0 where
  pub kinds : map (λ g. g.code) groups ≡ kinds_of list
  pub members : AllByRecursion (λ g. members_of g ≡ group_of list g.code) groups

-- the entry of a group, among so many and after those before it
abbrev pub group_entry : ℕ → List Group → Group → List ℕ
group_entry kinds before g =
    entry_of g.code (length (members_of g)) (2 + 8 * kinds + 12 * length (flat_map members_of before))

-- the entries of the groups
abbrev pub group_entries : List Group → List ℕ
group_entries groups = each_with_front (group_entry (length groups)) groups

-- the type list and the reference lists of the groups, of resources in this order
abbrev pub lists_in : List Group → List Resource → List ℕ
lists_in groups rs = lists_with (length groups) (group_entries groups) rs

-- the map of the groups after its copy of the header
abbrev pub tail_in : List Group → List Resource → ℕ → List ℕ
tail_in groups rs attributes = tail_with attributes (lists_in groups rs) (name_list rs)

-- the fork of the groups
abbrev pub image_in : List Group → List Resource → ℕ → List ℕ → List ℕ
image_in groups rs attributes reserved = image_with rs reserved (tail_in groups rs attributes)

-- the types and ids are in the ranges of their numbers
pub record AreInRange (groups : List Group) (rs : List Resource) : Type 0 where
  pub codes : AllByRecursion (λ g. g.code < 2 ^ 32) groups
  pub ids : AllByRecursion (λ r. FitsSigned w16 r.id) rs
