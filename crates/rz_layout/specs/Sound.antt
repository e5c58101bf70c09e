-- What the code asks of fields and their values.
use Rattle.std.specs.Prelude.{◌≡◌, ◌<◌, ◌≤ℤ◌, ℤ, pos, Bool, true, List, length, Option, None, Some}
use Rattle.std.specs.List.{AllByRecursion}
use Rattle.rz_expr.specs.Term.{Term}
use Rattle.rz_types_fields.specs.declared.tree.Tree.{Tree}
use Rattle.rz_types_fields.specs.Laid.{first_value, line_in, other_values, rows_in}
use Rattle.rz_types_fields.specs.Spells.{group_in, is_case}
use Rattle.rz_types.specs.Field.{case_and, field_and, no_cases, no_fields, takes_value, Align, Array, Fill, Label, Number, PlainBody, PlainCases, PlainField, PlainPoints, Points, Switch, Text}
use Rattle.rz_types.specs.Kept.{Differ}
use Rattle.rz_types.specs.Rules.{case_names}
use Rattle.rz_types.specs.Shape.{numbers_of}

-- a width of 1 to 32 bits
abbrev pub IsWidth : ℤ → Type 0
IsWidth width = (pos 1 ≤ℤ width) × (width ≤ℤ pos 32)

-- the value of a point or a rectangle has as many numbers as it
abbrev pub IsGroupBy : Bool → Option (List Term) → Option Tree → Type 0
IsGroupBy rect None value = length (group_in value) ≡ numbers_of rect
IsGroupBy rect (Some terms) value = value ≡ None

abbrev pub IsGroupOf : PlainPoints → Option Tree → Type 0
IsGroupOf points value = IsGroupBy points.rect points.fixed value

abbrev mutual
  -- a field that can be laid with this value: its width is one, a point has as many numbers as it takes, the cases of a switch have
  -- different names, and so on within it
  pub IsSound : PlainField → Option Tree → Type 0
  IsSound (Number number) value = IsWidth number.width
  IsSound (Text text) value = Unit {0}
  IsSound (Points points) value = IsGroupOf points value
  IsSound (Fill unit count) value = Unit {0}
  IsSound (Align unit) value = 0 < unit
  IsSound (Label name) value = Unit {0}
  IsSound (Array name count row) value = AllByRecursion (AreSound row) (rows_in value)
  IsSound (Switch cases) value = Differ (case_names cases) × IsCaseSound cases value

  -- the case that is chosen, with its row
  pub IsCaseSound : PlainCases → Option Tree → Type 0
  IsCaseSound no_cases value = Unit {0}
  IsCaseSound (case_and name row others) value = (is_case name value ≡ true → AreSound row (line_in value)) × IsCaseSound others value

  -- fields, each with its value of the row
  pub AreSound : PlainBody → List Tree → Type 0
  AreSound no_fields values = Unit {0}
  AreSound (field_and field fields) values = IsSound field (first_value (takes_value field) values) × AreSound fields (other_values (takes_value field) values)
