-- What the code asks of the fields that it reads: numbers of at most 32 bits, units to align to that aren't 0, and cases whose
-- keys stand apart.
use Rattle.std.specs.Prelude.{◌≡◌, ◌<◌, ◌≤◌, ℕ, nat_abs, Bool, true, false, [], ◌∷◌, Option, Some}
use Rattle.std.specs.Option.{is_some}
use Rattle.rz_types_fields.specs.Width.{capped, keys_from}
use Rattle.rz_types_fields.specs.declared.keys.CaseKey.{CaseKey}
use Rattle.rz_types_fields.specs.Field.{case_and, field_and, no_cases, no_fields, Align, Array, Fill, Label, Number, PlainBody, PlainCases, PlainField, Points, Switch, Text}
use Rattle.rz_types.specs.Kept.{HasKey}

-- fields after so many bits have one key, at a known distance
pub record HasKeyFrom (before : Option ℕ) (row : PlainBody) : Type 0 where
  pub key : CaseKey
  pub alone : keys_from before row ≡ key ∷ []
  pub fixed : is_some key.distance ≡ true

-- the field is a key
abbrev pub is_key : PlainField → Bool
is_key (Number number) = number.key
is_key field = false

-- where a width is known, it is found
abbrev pub IsFound : Option ℕ → Option ℕ → Type 0
IsFound exact found = (width : ℕ) → exact ≡ Some width → found ≡ Some (capped width)

abbrev mutual
  pub Fits : PlainField → Type 0
  Fits (Number number) = nat_abs number.width ≤ 32
  Fits (Text text) = Unit {0}
  Fits (Points points) = Unit {0}
  Fits (Fill unit count) = Unit {0}
  Fits (Align unit) = 0 < unit
  Fits (Label name) = Unit {0}
  Fits (Array name count row) = AreFit row
  Fits (Switch cases) = CasesFit cases

  pub AreFit : PlainBody → Type 0
  AreFit no_fields = Unit {0}
  AreFit (field_and field fields) = Fits field × AreFit fields

  pub CasesFit : PlainCases → Type 0
  CasesFit no_cases = Unit {0}
  CasesFit (case_and name row others) = HasKey row others × AreFit row × CasesFit others
