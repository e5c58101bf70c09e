-- Rows: the values that a resource gives to the fields of its type, one for each field that has none of its own. (MPW
-- Rez.)
use Rattle.std.specs.Prelude.{◌≡◌, ◌⊎◌, ℕ, ◌<◌, ◌^◌, ℤ, pos, nat_abs, Bool, true, false, List, [], ◌∷◌, length, Option, Some, None}
use Rattle.std.specs.List.{AllByRecursion}
use Rattle.rz_types_fields.specs.Field.{case_and, field_and, no_cases, no_fields, takes_value, Align, Array, Fill, Label, Number, PlainBody, PlainCases, PlainField, Points, Switch, Text}
use Rattle.rz_types_fields.specs.Shape.{numbers_of}
use Rattle.rz_types_fields.specs.declared.tree.Tree.{Tree}
use Rattle.rz_types_fields.specs.declared.tree.Tree.TheVariants as trees

-- an array has as many rows as are stated, or any number of them
abbrev pub IsStated : Option ℤ → ℕ → Type 0
IsStated None rows = Unit {0}
IsStated (Some count) rows = count ≡ pos rows

-- one of two by a test
abbrev pub By : Bool → Type 0 → Type 0 → Type 0
By true This Other = This
By false This Other = Other

-- the front of a row is the value of a field, or the field takes none
abbrev pub IsFront : Bool → (Tree → Type 0) → List Tree → List Tree → Type 0
IsFront true IsOne row rest = (value : Tree) × IsOne value × (row ≡ value ∷ rest)
IsFront false IsOne row rest = row ≡ rest

abbrev mutual
  -- a value of a field: a number below 2 to the power of the width, the bytes of a text, two or four numbers of 16 bits, the
  -- rows of an array, or a case of a switch and its row
  pub IsValue : PlainField → Tree → Type 0
  IsValue (Number number) value = (n : ℕ) × (value ≡ trees.Number n) × (n < 2 ^ nat_abs number.width)
  IsValue (Text text) value = (bytes : List ℕ) × (value ≡ trees.Text bytes)
  IsValue (Points points) value =
      (numbers : List ℕ) × (value ≡ trees.Group numbers) × (length numbers ≡ numbers_of points.rect) × AllByRecursion (λ n. n < 65536) numbers
  IsValue (Fill unit count) value = ⊥
  IsValue (Align unit) value = ⊥
  IsValue (Label name) value = ⊥
  IsValue (Array name count row) value =
      (rows : List (List Tree)) × (value ≡ trees.Rows rows) × IsStated count (length rows) × AllByRecursion (IsRow row) rows
  IsValue (Switch cases) value = IsChoice cases value

  -- one of the cases, by its name as it is declared, and a row of it
  pub IsChoice : PlainCases → Tree → Type 0
  IsChoice no_cases value = ⊥
  IsChoice (case_and name row others) value = ((line : List Tree) × (value ≡ trees.Choice name line) × IsRow row line) ⊎ IsChoice others value

  -- the row has one value for each field that takes one, and no other
  pub IsRow : PlainBody → List Tree → Type 0
  IsRow no_fields row = row ≡ []
  IsRow (field_and field fields) row = (rest : List Tree) × IsFront (takes_value field) (IsValue field) row rest × IsRow fields rest

abbrev pub IsFieldOf : Bool → PlainField → List Tree → List Tree → Type 0
IsFieldOf takes field row rest = IsFront takes (IsValue field) row rest
