-- Cases of switches by their names. (MPW Rez.)
use Rattle.std.specs.Prelude.{ℕ, Bool, false, if◌then◌else◌, List, Option, Some, None}
use Rattle.std.specs.Str.{str_eq_ignore_ascii_case}
use Rattle.rz_types_fields.specs.Field.{case_and, field_and, no_cases, no_fields, Align, Array, Fill, Label, Number, PlainBody, PlainCase, PlainCases, PlainField, Points, Switch, Text}
use Rattle.rz_types.specs.Kept.{Differ}
use Rattle.rz_types.specs.Rules.{case_names}

-- the first case of a name, in whatever case
abbrev pub case_named : List ℕ → PlainCases → Option PlainCase
case_named name no_cases = None
case_named name (case_and own row others) =
    if str_eq_ignore_ascii_case own.bytes name then Some (record { name = own; row = row }) else case_named name others

-- a case of the name is there
abbrev pub is_named : List ℕ → Option PlainCase → Bool
is_named name None = false
is_named name (Some one) = str_eq_ignore_ascii_case one.name.bytes name

abbrev mutual
  -- the cases of each switch in a field have different names
  pub AreNamesApartIn : PlainField → Type 0
  AreNamesApartIn (Number number) = Unit {0}
  AreNamesApartIn (Text text) = Unit {0}
  AreNamesApartIn (Points points) = Unit {0}
  AreNamesApartIn (Fill unit count) = Unit {0}
  AreNamesApartIn (Align unit) = Unit {0}
  AreNamesApartIn (Label name) = Unit {0}
  AreNamesApartIn (Array name count row) = AreNamesApart row
  AreNamesApartIn (Switch cases) = Differ (case_names cases) × AreNamesApartWithin cases

  -- in a body
  pub AreNamesApart : PlainBody → Type 0
  AreNamesApart no_fields = Unit {0}
  AreNamesApart (field_and field fields) = AreNamesApartIn field × AreNamesApart fields

  -- and in the cases of a switch
  pub AreNamesApartWithin : PlainCases → Type 0
  AreNamesApartWithin no_cases = Unit {0}
  AreNamesApartWithin (case_and name row others) = AreNamesApart row × AreNamesApartWithin others
