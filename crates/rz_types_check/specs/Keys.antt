-- What the code holds of the keys of the cases of a switch.
use Rattle.std.specs.Prelude.{◌≡◌, ℕ, ◌==◌, List, Some, slice_get}
use Rattle.std.specs.List.{list_any, AllByRecursion}
use Rattle.rz_types_fields.specs.declared.keys.CaseKey.{CaseKey}

-- two keys have one width, and stand at one distance
abbrev pub IsLike : CaseKey → CaseKey → Type 0
IsLike first key = (key.width ≡ first.width) × (key.distance ≡ first.distance)

-- all have the width and the distance of the first
abbrev pub AreAlike : List CaseKey → Type 0
AreAlike keys = (first : CaseKey) → slice_get keys 0 ≡ Some first → AllByRecursion (IsLike first) keys

-- these are the bits of the keys
abbrev pub HaveBits : List ℕ → List CaseKey → Type 0
HaveBits held keys = (bits : ℕ) → list_any (λ one. bits == one) held ≡ list_any (λ key. bits == key.bits) keys
