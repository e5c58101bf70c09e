-- What the rules of type declarations say of each field, and of the fields within it. (MPW Rez.)
use Rattle.std.specs.Prelude.{◌≡◌, ◌≢◌, true, false, List, [], ◌∷◌, None}
use Rattle.std.specs.List.{AllByRecursion}
use Rattle.std.specs.Option.{is_some}
use Rattle.std.specs.Str.{str_eq_ignore_ascii_case}
use Rattle.rz_core.specs.declared.resource.Word.{Word}
use Rattle.rz_types_fields.specs.Field.{case_and, field_and, no_cases, no_fields, Align, Array, Fill, Label, Number, PlainBody, PlainCases, PlainField, Points, Switch, Text}
use Rattle.rz_types_fields.specs.Width.{case_keys}
use Rattle.rz_types_fields.specs.declared.keys.CaseKey.{CaseKey}
use Rattle.rz_types.specs.Rules.{bad_width, case_names, has_values, unknown_in}
use Rattle.rz_types.specs.Walk.{and_names, around_names, names_of, Own}

-- no two are the same name, in whatever case
abbrev pub Differ : List Word → Type 0
Differ [] = Unit {0}
Differ (name ∷ names) = AllByRecursion (λ later. str_eq_ignore_ascii_case name.bytes later.bytes ≡ false) names × Differ names

-- labels have different names, and so have arrays, and the labels that stand directly in the rows of these
abbrev pub AreOwn : Own → Type 0
AreOwn names = Differ names.labels × Differ names.arrays × Differ names.indexed

abbrev mutual
  -- within a field: the rows of an array, in which its name is that of an array around, take a value, the cases of a switch have
  -- different names, and so on within them
  pub IsKeptWithin : (scope : Own) → PlainField → Type 0
  IsKeptWithin scope (Number number) = Unit {0}
  IsKeptWithin scope (Text text) = Unit {0}
  IsKeptWithin scope (Points points) = Unit {0}
  IsKeptWithin scope (Fill unit count) = Unit {0}
  IsKeptWithin scope (Align unit) = Unit {0}
  IsKeptWithin scope (Label name) = Unit {0}
  IsKeptWithin scope (Array name count row) = (has_values row ≡ true) × AreOwn (names_of row) × AreKept (and_names (and_names scope (around_names name)) (names_of row)) row
  IsKeptWithin scope (Switch cases) = Differ (case_names cases) × AreCasesKept scope cases

  -- fields that may name these labels and arrays: each has a width that may be, and names none but these
  pub AreKept : (scope : Own) → PlainBody → Type 0
  AreKept scope no_fields = Unit {0}
  AreKept scope (field_and field fields) = (bad_width field ≡ None) × (unknown_in scope field ≡ None) × IsKeptWithin scope field × AreKept scope fields

  pub AreCasesKept : (scope : Own) → PlainCases → Type 0
  AreCasesKept scope no_cases = Unit {0}
  AreCasesKept scope (case_and name row others) = AreOwn (names_of row) × AreKept (and_names scope (names_of row)) row × AreCasesKept scope others

-- the fields of a declaration
abbrev pub IsKept : PlainBody → Type 0
IsKept body = AreOwn (names_of body) × AreKept (names_of body) body

-- Keys.

-- two keys stand at one place with one width, and have other bits
pub record StandApart (one other : CaseKey) : Type 0 where
  pub width : one.width ≡ other.width
  pub distance : one.distance ≡ other.distance
  pub bits : one.bits ≢ other.bits

-- a key stands so with the keys of all these cases
abbrev pub IsApartFrom : CaseKey → PlainCases → Type 0
IsApartFrom key no_cases = Unit {0}
IsApartFrom key (case_and name row others) = AllByRecursion (StandApart key) (case_keys row) × IsApartFrom key others

-- a case has one key, after fields of fixed width, which stands so with those of the cases after it
pub record HasKey (row : PlainBody) (others : PlainCases) : Type 0 where
  pub key : CaseKey
  pub alone : case_keys row ≡ key ∷ []
  pub fixed : is_some key.distance ≡ true
  pub apart : IsApartFrom key others

abbrev mutual
  -- so do the keys of the cases of each switch, in a field
  pub AreKeysApartIn : PlainField → Type 0
  AreKeysApartIn (Number number) = Unit {0}
  AreKeysApartIn (Text text) = Unit {0}
  AreKeysApartIn (Points points) = Unit {0}
  AreKeysApartIn (Fill unit count) = Unit {0}
  AreKeysApartIn (Align unit) = Unit {0}
  AreKeysApartIn (Label name) = Unit {0}
  AreKeysApartIn (Array name count row) = AreKeysApart row
  AreKeysApartIn (Switch cases) = AreCasesApart cases

  -- in a body
  pub AreKeysApart : PlainBody → Type 0
  AreKeysApart no_fields = Unit {0}
  AreKeysApart (field_and field fields) = AreKeysApartIn field × AreKeysApart fields

  -- and in the cases of a switch
  pub AreCasesApart : PlainCases → Type 0
  AreCasesApart no_cases = Unit {0}
  AreCasesApart (case_and name row others) = HasKey row others × AreKeysApart row × AreCasesApart others
