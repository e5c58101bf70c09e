-- A list of resources with at most one of each type and id, and what is found in it by them. (Inside Macintosh:
-- More Macintosh Toolbox, Resource Manager.)
use Rattle.std.specs.Prelude.{◌≡◌, ◌<◌, ℕ, ℤ, ◌==◌, ◌&&◌, Bool, if◌then◌else◌, List, [], ◌∷◌, length, map, Option, Some, None}
use Rattle.std.specs.Int.{cast_unsigned, w16}
use Rattle.std.specs.List.{AllByRecursion}
use Rattle.rz_core.specs.Resources.{id_bits, KeysDiffer}
use Rattle.rz_core.specs.declared.resource.OsType.{OsType}
use Rattle.rz_core.specs.declared.resource.Resource.{Resource}

-- the resource has this type and this id
abbrev pub has_key : OsType → ℤ → Resource → Bool
has_key kind id r = (kind.code == r.kind.code) && (cast_unsigned w16 id == id_bits r)

-- the first resource of a list that has this type and this id
abbrev pub found : OsType → ℤ → List Resource → Option Resource
found kind id [] = None
found kind id (r ∷ rs) = if has_key kind id r then Some r else found kind id rs

-- each name has at most 255 bytes
abbrev pub AreNamed : List Resource → Type 0
AreNamed list = AllByRecursion (λ r. length r.name < 256) list

-- How the code holds it: as entries of a key and a resource, in order.

-- the type and the 16 bits of the id
abbrev pub key_of : OsType → ℤ → ℕ × ℕ
key_of kind id = (kind.code, cast_unsigned w16 id)

-- each resource under its key
abbrev pub keyed : List Resource → List ((ℕ × ℕ) × Resource)
keyed list = map (λ r. (key_of r.kind r.id, r)) list

-- the resources alone
abbrev pub values_of : List ((ℕ × ℕ) × Resource) → List Resource
values_of entries = map (λ e. e.1) entries

-- each resource stands under its key, no two keys are the same, and the names are short
pub record AreKeyed (entries : List ((ℕ × ℕ) × Resource)) : Type 0 where
  pub keyed : entries ≡ keyed (values_of entries)
  pub keys : KeysDiffer [] (values_of entries)
  pub named : AreNamed (values_of entries)
