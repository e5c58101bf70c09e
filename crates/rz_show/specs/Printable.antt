-- What holds of fields, rows and items whose lines are cut back into the tokens that are meant.
use Rattle.std.specs.Prelude.{◌≡◌, ℕ, ◌≤ℤ◌, ℤ, pos, Bool, false, codes, List, Option}
use Rattle.std.specs.List.{AllByRecursion}
use Rattle.rz_lex.specs.Printed.{AreBytes}
use Rattle.rz_types_fields.specs.declared.tree.Tree.{Tree}
use Rattle.rz_types_fields.specs.Laid.{first_value, line_in, other_values, rows_in, text_in}
use Rattle.rz_types_fields.specs.Row.{By}
use Rattle.rz_types_fields.specs.Spells.{is_case}
use Rattle.rz_types.specs.Field.{case_and, field_and, no_cases, no_fields, takes_value, Align, Array, Fill, Label, Number, PlainBody, PlainCases, PlainField, Points, Switch, Text}
use Rattle.rz_show_lines.specs.Written.{IsName}

-- `true` and `false` are no live macros: they are reserved
pub record SparesTruth (hidden : List ℕ → Bool) : Type 0 where
  pub of_true : hidden (codes "true") ≡ false
  pub of_false : hidden (codes "false") ≡ false

-- Fields.

-- a number has 1 to 32 bits
abbrev pub IsWidth : ℤ → Type 0
IsWidth width = (pos 1 ≤ℤ width) × (width ≤ℤ pos 32)

abbrev mutual
  -- each number has a width that it may have
  pub HasWidth : PlainField → Type 0
  HasWidth (Number number) = IsWidth number.width
  HasWidth (Text text) = Unit {0}
  HasWidth (Points points) = Unit {0}
  HasWidth (Fill unit count) = Unit {0}
  HasWidth (Align unit) = Unit {0}
  HasWidth (Label name) = Unit {0}
  HasWidth (Array name count row) = HasWidths row
  HasWidth (Switch cases) = HaveWidths cases

  pub HasWidths : PlainBody → Type 0
  HasWidths no_fields = Unit {0}
  HasWidths (field_and field fields) = HasWidth field × HasWidths fields

  pub HaveWidths : PlainCases → Type 0
  HaveWidths no_cases = Unit {0}
  HaveWidths (case_and name row others) = HasWidths row × HaveWidths others

-- Names.

abbrev mutual
  -- the names of symbols and cases are words
  pub HasName : PlainField → Type 0
  HasName (Number number) = AllByRecursion (λ symbol. IsName symbol.name.bytes) number.symbols
  HasName (Text text) = Unit {0}
  HasName (Points points) = Unit {0}
  HasName (Fill unit count) = Unit {0}
  HasName (Align unit) = Unit {0}
  HasName (Label name) = Unit {0}
  HasName (Array name count row) = HasNames row
  HasName (Switch cases) = HaveNames cases

  pub HasNames : PlainBody → Type 0
  HasNames no_fields = Unit {0}
  HasNames (field_and field fields) = HasName field × HasNames fields

  pub HaveNames : PlainCases → Type 0
  HaveNames no_cases = Unit {0}
  HaveNames (case_and name row others) = IsName name.bytes × HasNames row × HaveNames others

-- Rows.

abbrev mutual
  -- the texts of the value are bytes
  pub IsOfBytes : PlainField → Option Tree → Type 0
  IsOfBytes (Number number) value = Unit {0}
  IsOfBytes (Text text) value = AreBytes (text_in value)
  IsOfBytes (Points points) value = Unit {0}
  IsOfBytes (Fill unit count) value = Unit {0}
  IsOfBytes (Align unit) value = Unit {0}
  IsOfBytes (Label name) value = Unit {0}
  IsOfBytes (Array name count row) value = AllByRecursion (AreOfBytes row) (rows_in value)
  IsOfBytes (Switch cases) value = IsCaseOfBytes cases value

  pub AreOfBytes : PlainBody → List Tree → Type 0
  AreOfBytes no_fields row = Unit {0}
  AreOfBytes (field_and field fields) row = IsOfBytes field (first_value (takes_value field) row) × AreOfBytes fields (other_values (takes_value field) row)

  pub IsCaseOfBytes : PlainCases → Option Tree → Type 0
  IsCaseOfBytes no_cases value = Unit {0}
  IsCaseOfBytes (case_and name row others) value = By (is_case name value) (AreOfBytes row (line_in value)) (IsCaseOfBytes others value)
