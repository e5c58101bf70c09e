-- Types, lists of resources and the keys of resources. (Inside Macintosh: More Macintosh Toolbox, Resource Manager.)
use Rattle.std.specs.Prelude.{◌≡◌, ℕ, ◌==◌, ◌&&◌, Bool, false, not, if◌then◌else◌, List, [], ◌∷◌, ◌++◌, bit_and, fold, Option, Some, None}
use Rattle.std.specs.List.{list_any}
use Rattle.std.specs.Int.{cast_unsigned, from_be_bytes, w16, w32}
use Rattle.rz_core.specs.declared.resource.OsType.{OsType}
use Rattle.rz_core.specs.declared.resource.Resource.{Resource}

-- four bytes as a type, the first byte highest
abbrev pub kind_of : List ℕ → Option OsType
kind_of (a ∷ b ∷ c ∷ d ∷ []) = Some (record { code = from_be_bytes w32 (a ∷ b ∷ c ∷ d ∷ []) })
kind_of bytes = None

-- the 16 bits of a resource's id
abbrev pub id_bits : Resource → ℕ
id_bits r = cast_unsigned w16 r.id

-- the bit 08 of the attributes is that of a protected resource
abbrev pub is_protected : Resource → Bool
is_protected r = not (bit_and r.attr 8 == 0)

-- the two resources have the same type and the same id
abbrev pub same_key : Resource → Resource → Bool
same_key a b = (a.kind.code == b.kind.code) && (id_bits a == id_bits b)

-- the pairs of type and id differ, from each other and from those of the resources before
abbrev pub KeysDiffer : List Resource → List Resource → Type 0
KeysDiffer before [] = Unit {0}
KeysDiffer before (r ∷ rs) = (list_any (λ b. same_key b r) before ≡ false) × KeysDiffer (before ++ r ∷ []) rs

-- the list with a resource put into it: in the place of the one that has its type and id, else at the end
abbrev pub put : List Resource → Resource → List Resource
put [] r = r ∷ []
put (x ∷ xs) r = if same_key r x then r ∷ xs else x ∷ put xs r

-- the list after each of these is put into it, in order
abbrev pub put_all : List Resource → List Resource → List Resource
put_all list rs = fold put list rs
