-- The names of well-shaped fields are words.
use Rattle.std.proofs.Common.{◌≡◌, ℕ, ◌≤◌, ◌&&◌, Bool, true, false, List, [], ◌∷◌, length, arith}
use Rattle.std.specs.Prelude.{ℤ, if◌then◌else◌, nat_le}
use Rattle.std.specs.List.{list_all, AllByRecursion}
use Rattle.std.proofs.lemmas.Bool.Decides.{nat_tests}
use Rattle.rz_core.proofs.Tests.{both}
use Rattle.rz_words.specs.Words.{is_name, role_of}
use Rattle.rz_lex.specs.Lexeme.{is_lexed_word}
use Rattle.rz_lex.specs.Printed.{is_word}
use Rattle.rz_types_fields.specs.declared.field.NumForm.{NumForm}
use Rattle.rz_types_fields.specs.declared.field.Symbol.{Symbol}
use Rattle.rz_types.specs.Field.{case_and, field_and, no_cases, no_fields, Align, Array, Fill, Label, Number, PlainBody, PlainCases, PlainField, PlainNumber, Points, Switch, Text}
use Rattle.rz_types.specs.Range.{fits_number}
use Rattle.rz_types.specs.Shape.{are_cases_shaped, are_shaped, is_fixed_number, is_key_shaped, is_none_or, is_number_shaped, is_own_name, is_own_width, is_shaped, is_symbol_name, is_symbol_of, is_well_shaped}
use Rattle.rz_show.specs.Printable.{HasName, HasNames, HaveNames}
use Rattle.rz_show_lines.specs.Written.{IsName}
use Rattle.rz_show.proofs.Widths.{fields_shaped}

short : (n : ℕ) → nat_le n 255 ≡ true → n ≤ 255
short n is = grind (arith, nat_tests)

name_is : (name : List ℕ) → is_symbol_name name ≡ true → IsName name
name_is name is =
    let word = both (is_word name) (nat_le (length name) 255) (both (is_lexed_word name) (is_name (role_of name)) is).0 in
    (word.0, short (length name) word.1)

symbols_are : (form : NumForm) (width : ℤ) (symbols : List Symbol) → list_all (is_symbol_of form width) symbols ≡ true → AllByRecursion (λ (s : Symbol). IsName s.name.bytes) symbols
symbols_are form width [] is = tt
symbols_are form width (s ∷ symbols) is =
    let each = both (is_symbol_of form width s) (list_all (is_symbol_of form width) symbols) is in
    (name_is s.name.bytes (both (is_symbol_name s.name.bytes) (fits_number form width s.value) each.0).0, symbols_are form width symbols each.1)

number_names : (in_case : Bool) (number : PlainNumber) → is_number_shaped in_case number ≡ true → AllByRecursion (λ (s : Symbol). IsName s.name.bytes) number.symbols
number_names in_case number is =
    let own : Bool = is_own_width number.form number.width in
    let front : Bool = own && list_all (is_symbol_of number.form number.width) number.symbols in
    let one = both (front && is_fixed_number number.symbols number.fixed) (if number.key then is_key_shaped in_case number else true) is in
    let two = both front (is_fixed_number number.symbols number.fixed) one.0 in
    symbols_are number.form number.width number.symbols (both own (list_all (is_symbol_of number.form number.width) number.symbols) two.0).1

mutual
  field_names : (in_case : Bool) (field : PlainField) → is_shaped in_case field ≡ true → HasName field
  field_names in_case (Number number) is = number_names in_case number is
  field_names in_case (Text text) is = tt
  field_names in_case (Points points) is = tt
  field_names in_case (Fill unit count) is = tt
  field_names in_case (Align unit) is = tt
  field_names in_case (Label name) is = tt
  field_names in_case (Array name count row) is = body_names false row (both (is_none_or is_own_name name) (are_shaped false row) is).1
  field_names in_case (Switch cases) is = cases_names cases is

  cases_names : (cases : PlainCases) → are_cases_shaped cases ≡ true → HaveNames cases
  cases_names no_cases is = tt
  cases_names (case_and name row others) is =
      let all = both (is_own_name name) (are_shaped true row && are_cases_shaped others) is in
      let each = both (are_shaped true row) (are_cases_shaped others) all.1 in
      (name_is name.bytes all.0, body_names true row each.0, cases_names others each.1)

  body_names : (in_case : Bool) (body : PlainBody) → are_shaped in_case body ≡ true → HasNames body
  body_names in_case no_fields is = tt
  body_names in_case (field_and field fields) is =
      let each = both (is_shaped in_case field) (are_shaped in_case fields) is in
      (field_names in_case field each.0, body_names in_case fields each.1)

pub shaped_names : (body : PlainBody) → is_well_shaped body ≡ true → HasNames body
shaped_names body is = body_names false body (fields_shaped body is)
