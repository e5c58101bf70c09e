-- Fields as contracts see them, without where their expressions lie in memory. (MPW Rez.)
use Rattle.std.specs.Prelude.{ℕ, ℤ, Bool, true, false, List, [], ◌∷◌, map, Option, option_map}
use Rattle.std.specs.Option.{is_none}
use Rattle.rz_core.specs.declared.resource.Word.{Word}
use Rattle.rz_expr.specs.Term.{term_of, Term}
use Rattle.rz_types_fields.specs.declared.field.ArrayField.{ArrayField}
use Rattle.rz_types_fields.specs.declared.field.Case.{Case}
use Rattle.rz_types_fields.specs.declared.field.Field.{Field}
use Rattle.rz_types_fields.specs.declared.field.Field.TheFolds.{fold-ArrayField, fold-Case, fold-Field}
use Rattle.rz_types_fields.specs.declared.field.Field.TheOpen.{ArrayField-F, Case-F, Field-F}
use Rattle.rz_types_fields.specs.declared.field.NumField.{NumField}
use Rattle.rz_types_fields.specs.declared.field.NumForm.{NumForm}
use Rattle.rz_types_fields.specs.declared.field.PointField.{PointField}
use Rattle.rz_types_fields.specs.declared.field.Radix.{Radix}
use Rattle.rz_types_fields.specs.declared.field.Symbol.{Symbol}
use Rattle.rz_types_fields.specs.declared.field.TextField.{TextField}
use Rattle.rz_types_fields.specs.declared.field.TextForm.{TextForm}
use Rattle.rz_types_fields.specs.Text.{plain_parts, PlainPart}

pub record PlainNumber : Type 0 where
  pub form : NumForm
  pub width : ℤ
  pub unsigned : Bool
  pub radix : Radix
  pub symbols : List Symbol
  pub fixed : Option Term
  pub key : Bool

pub record PlainText : Type 0 where
  pub form : TextForm
  pub hex : Bool
  pub size : Option Term
  pub fixed : Option (List PlainPart)

pub record PlainPoints : Type 0 where
  pub rect : Bool
  pub fixed : Option (List Term)

mutual
  pub data PlainField : Type 0 where
    Number : (number : PlainNumber) → PlainField
    Text : (text : PlainText) → PlainField
    Points : (points : PlainPoints) → PlainField
    Fill : (unit : ℕ) (count : ℤ) → PlainField
    Align : (unit : ℕ) → PlainField
    Label : (name : Word) → PlainField
    Array : (name : Option Word) (count : Option ℤ) (row : PlainBody) → PlainField
    Switch : (cases : PlainCases) → PlainField

  -- the fields of a declaration, of a row of an array or of a case, in order
  pub data PlainBody : Type 0 where
    no_fields : PlainBody
    field_and : (field : PlainField) (others : PlainBody) → PlainBody

  -- the cases of a switch, in order
  pub data PlainCases : Type 0 where
    no_cases : PlainCases
    case_and : (name : Word) (row : PlainBody) (others : PlainCases) → PlainCases

abbrev pub plain_number : NumField → PlainNumber
plain_number field = record {
  form = field.form;
  width = field.width;
  unsigned = field.unsigned;
  radix = field.radix;
  symbols = field.symbols;
  fixed = option_map term_of field.fixed;
  key = field.key;
}

abbrev pub plain_text : TextField → PlainText
plain_text field = record { form = field.form; hex = field.hex; size = option_map term_of field.size; fixed = option_map plain_parts field.fixed }

abbrev pub plain_points : PointField → PlainPoints
plain_points field = record { rect = field.rect; fixed = option_map (map term_of) field.fixed }

abbrev pub body_of : List PlainField → PlainBody
body_of [] = no_fields
body_of (field ∷ fields) = field_and field (body_of fields)

-- a case by itself
pub record PlainCase : Type 0 where
  pub name : Word
  pub row : PlainBody

abbrev pub cases_of : List PlainCase → PlainCases
cases_of [] = no_cases
cases_of (one ∷ cases) = case_and one.name one.row (cases_of cases)

-- the row has the value of the field: the declaration gives none
abbrev pub takes_value : PlainField → Bool
takes_value (Number number) = is_none number.fixed
takes_value (Text text) = is_none text.fixed
takes_value (Points points) = is_none points.fixed
takes_value (Fill unit count) = false
takes_value (Align unit) = false
takes_value (Label name) = false
takes_value (Array name count row) = true
takes_value (Switch cases) = true

-- What the code holds.

abbrev pub array_step : ArrayField-F PlainField PlainField PlainCase → PlainField
array_step array = Array array.name array.count (body_of array.row)

abbrev pub case_step : Case-F PlainField PlainField PlainCase → PlainCase
case_step one = record { name = one.name; row = body_of one.row }

abbrev pub field_step : Field-F PlainField PlainField PlainCase → PlainField
field_step (Field-F.Num field) = Number (plain_number field)
field_step (Field-F.Text field) = Text (plain_text field)
field_step (Field-F.Points field) = Points (plain_points field)
field_step (Field-F.Fill unit count) = Fill unit count
field_step (Field-F.Align unit) = Align unit
field_step (Field-F.Label name) = Label name
field_step (Field-F.Array array) = array
field_step (Field-F.Switch cases hints) = Switch (cases_of cases)

-- the plain field that a field is
abbrev pub plain_field : Field → PlainField
plain_field = fold-Field PlainField PlainField PlainCase field_step array_step case_step

abbrev pub plain_array : ArrayField → PlainField
plain_array = fold-ArrayField PlainField PlainField PlainCase field_step array_step case_step

abbrev pub plain_case : Case → PlainCase
plain_case = fold-Case PlainField PlainField PlainCase field_step array_step case_step

abbrev pub plain_body : List Field → PlainBody
plain_body fields = body_of (map plain_field fields)

abbrev pub plain_cases : List Case → PlainCases
plain_cases cases = cases_of (map plain_case cases)
