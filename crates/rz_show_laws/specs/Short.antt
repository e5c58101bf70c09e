-- Rows whose texts are no longer than they may be. (MPW Rez.)
use Rattle.std.specs.Prelude.{◌≡◌, false, List, Option}
use Rattle.std.specs.List.{AllByRecursion}
use Rattle.rz_types_fields.specs.declared.tree.Tree.{Tree}
use Rattle.rz_stmt_items.specs.Fits.{exceeds}
use Rattle.rz_types_fields.specs.Laid.{first_value, line_in, other_values, rows_in, text_in}
use Rattle.rz_types_fields.specs.Row.{By}
use Rattle.rz_types_fields.specs.Spells.{is_case}
use Rattle.rz_types.specs.Field.{case_and, field_and, no_cases, no_fields, takes_value, Align, Array, Fill, Label, Number, PlainBody, PlainCases, PlainField, Points, Switch, Text}

abbrev mutual
  -- the texts of the value that have no size are no longer than their length can say
  pub IsShortText : PlainField → Option Tree → Type 0
  IsShortText (Number number) value = Unit {0}
  IsShortText (Text text) value = exceeds text (text_in value) ≡ false
  IsShortText (Points points) value = Unit {0}
  IsShortText (Fill unit count) value = Unit {0}
  IsShortText (Align unit) value = Unit {0}
  IsShortText (Label name) value = Unit {0}
  IsShortText (Array name count row) value = AllByRecursion (AreShortTexts row) (rows_in value)
  IsShortText (Switch cases) value = IsShortCase cases value

  pub AreShortTexts : PlainBody → List Tree → Type 0
  AreShortTexts no_fields row = Unit {0}
  AreShortTexts (field_and field fields) row =
      IsShortText field (first_value (takes_value field) row) × AreShortTexts fields (other_values (takes_value field) row)

  pub IsShortCase : PlainCases → Option Tree → Type 0
  IsShortCase no_cases value = Unit {0}
  IsShortCase (case_and name row others) value = By (is_case name value) (AreShortTexts row (line_in value)) (IsShortCase others value)
