-- The shapes that fields have, whatever their numbers are: what the grammar of declarations makes. (MPW Rez.)
use Rattle.std.specs.Prelude.{ℕ, suc, max, ℤ, nat_le, Bool, true, false, not, ◌&&◌, ◌||◌, ◌==◌, if◌then◌else◌, List, [], ◌∷◌, length, Option, Some, None}
use Rattle.std.specs.List.{list_all}
use Rattle.std.specs.Option.{is_some}
use Rattle.std.specs.Ordering.{int_eq}
use Rattle.rz_expr.specs.Constant.{constant_of}
use Rattle.rz_expr.specs.Term.{Term}
use Rattle.rz_words.specs.Words.{is_label, is_name, role_of}
use Rattle.rz_lex.specs.Lexeme.{is_lexed_word}
use Rattle.rz_core.specs.declared.resource.Word.{Word}
use Rattle.rz_types_fields.specs.Field.{case_and, field_and, no_cases, no_fields, Align, Array, Fill, Label, Number, PlainBody, PlainCases, PlainField, PlainNumber, PlainPoints, PlainText, Points, Switch, Text}
use Rattle.rz_types_fields.specs.Range.{fits_number, own_width}
use Rattle.rz_types_fields.specs.Place.{may_stand}
use Rattle.rz_types_fields.specs.Text.{PlainPart}
use Rattle.rz_types_fields.specs.Value.{is_fixed_expression, is_size_expression}
use Rattle.rz_types_fields.specs.declared.field.NumForm.{NumForm}
use Rattle.rz_types_fields.specs.declared.field.NumForm.TheVariants.{Bits, Boolean, Byte, Char, Integer, Longint}
use Rattle.rz_types_fields.specs.declared.field.Symbol.{Symbol}
use Rattle.rz_types_fields.specs.declared.place.TextPlace.TheVariants.{Fixed}

abbrev pub is_empty : {A : Type 0} → List A → Bool
is_empty [] = true
is_empty (x ∷ xs) = false

-- nothing, or what passes
abbrev pub is_none_or : {A : Type 0} → (A → Bool) → Option A → Bool
is_none_or test None = true
is_none_or test (Some x) = test x

-- Numbers.

-- a type that has a width of its own has this one
abbrev pub is_own_width : NumForm → ℤ → Bool
is_own_width form width = is_none_or (int_eq width) (own_width form)

-- a symbol has a name, a word of at most 255 bytes that names what isn't necessarily a label, and a value in the range
abbrev pub is_symbol_name : List ℕ → Bool
is_symbol_name name = is_lexed_word name && is_name (role_of name)

abbrev pub is_symbol_of : NumForm → ℤ → Symbol → Bool
is_symbol_of form width symbol = is_symbol_name symbol.name.bytes && fits_number form width symbol.value

-- a fixed value is an expression, and then there are no symbols
abbrev pub is_fixed_number : List Symbol → Option Term → Bool
is_fixed_number symbols None = true
is_fixed_number symbols (Some term) = is_fixed_expression term && is_empty symbols

-- the types that a key may have
abbrev pub may_be_key : NumForm → Bool
may_be_key Bits = true
may_be_key Byte = true
may_be_key Integer = true
may_be_key Longint = true
may_be_key Boolean = false
may_be_key Char = false

abbrev pub has_value : Option Term → Bool
has_value None = false
has_value (Some term) = is_some (constant_of term)

-- a key stands directly in a case; its value is a constant that has one
abbrev pub is_key_shaped : Bool → PlainNumber → Bool
is_key_shaped in_case number = in_case && may_be_key number.form && is_empty number.symbols && has_value number.fixed

abbrev pub is_number_shaped : Bool → PlainNumber → Bool
is_number_shaped in_case number =
    is_own_width number.form number.width && list_all (is_symbol_of number.form number.width) number.symbols
    && is_fixed_number number.symbols number.fixed && (if number.key then is_key_shaped in_case number else true)

-- Texts.

-- a fixed text has one part or more
abbrev pub is_fixed_text : List PlainPart → Bool
is_fixed_text parts = not (is_empty parts) && may_stand Fixed parts

abbrev pub is_text_shaped : PlainText → Bool
is_text_shaped text = is_none_or is_size_expression text.size && is_none_or is_fixed_text text.fixed

-- Points and rectangles.

abbrev pub numbers_of : Bool → ℕ
numbers_of rect = if rect then 4 else 2

abbrev pub are_fixed_points : Bool → List Term → Bool
are_fixed_points rect terms = (length terms == numbers_of rect) && list_all is_fixed_expression terms

abbrev pub is_points_shaped : PlainPoints → Bool
is_points_shaped points = is_none_or (are_fixed_points points.rect) points.fixed

-- Units in bits: bit, nibble, byte, word and long.

abbrev pub is_unit : ℕ → Bool
is_unit unit = (unit == 1) || (unit == 4) || (unit == 8) || (unit == 16) || (unit == 32)

-- Fields.

-- the name of an array or a case
abbrev pub is_own_name : Word → Bool
is_own_name name = is_symbol_name name.bytes

-- the name of a label: no word that means something else
abbrev pub is_label_name : Word → Bool
is_label_name name = is_lexed_word name.bytes && is_label (role_of name.bytes)

abbrev mutual
  -- the field of a case, or of another body
  pub is_shaped : (in_case : Bool) → PlainField → Bool
  is_shaped in_case (Number number) = is_number_shaped in_case number
  is_shaped in_case (Text text) = is_text_shaped text
  is_shaped in_case (Points points) = is_points_shaped points
  is_shaped in_case (Fill unit count) = is_unit unit
  is_shaped in_case (Align unit) = is_unit unit && not (unit == 1)
  is_shaped in_case (Label name) = is_label_name name
  is_shaped in_case (Array name count row) = is_none_or is_own_name name && are_shaped false row
  is_shaped in_case (Switch cases) = are_cases_shaped cases

  pub are_shaped : (in_case : Bool) → PlainBody → Bool
  are_shaped in_case no_fields = true
  are_shaped in_case (field_and field fields) = is_shaped in_case field && are_shaped in_case fields

  pub are_cases_shaped : PlainCases → Bool
  are_cases_shaped no_cases = true
  are_cases_shaped (case_and name row others) = is_own_name name && (are_shaped true row && are_cases_shaped others)

-- Depth.

abbrev mutual
  -- how many arrays and switches stand in one another
  pub field_depth : PlainField → ℕ
  field_depth (Number number) = 0
  field_depth (Text text) = 0
  field_depth (Points points) = 0
  field_depth (Fill unit count) = 0
  field_depth (Align unit) = 0
  field_depth (Label name) = 0
  field_depth (Array name count row) = suc (body_depth row)
  field_depth (Switch cases) = suc (cases_depth cases)

  pub body_depth : PlainBody → ℕ
  body_depth no_fields = 0
  body_depth (field_and field fields) = max (field_depth field) (body_depth fields)

  pub cases_depth : PlainCases → ℕ
  cases_depth no_cases = 0
  cases_depth (case_and name row others) = max (body_depth row) (cases_depth others)

-- arrays and switches stand at most so deep in one another
abbrev pub deepest_body : ℕ
deepest_body = 60

-- the fields of a declaration, which stand in no case
abbrev pub is_well_shaped : PlainBody → Bool
is_well_shaped body = are_shaped false body && nat_le (body_depth body) deepest_body
