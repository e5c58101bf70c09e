-- Fields that keep the rules have widths that they may have.
use Rattle.std.proofs.Common.{◌≡◌, ◌<◌, ◌≤◌, ℤ, pos, negsuc, Bool, true, false, ◌&&◌, None, sym, subst, arith}
use Rattle.std.specs.Prelude.{if◌then◌else◌, nat_abs, nat_le}
use Rattle.std.specs.List.{list_all}
use Rattle.std.specs.Ordering.{int_eq}
use Rattle.std.proofs.lemmas.Bool.Decides.{nat_tests, Decides-int_eq}
use Rattle.std.proofs.lemmas.Int.{ints}
use Rattle.rz_core.proofs.Tests.{both}
use Rattle.rz_types_fields.specs.declared.field.NumForm.{NumForm}
use Rattle.rz_types_fields.specs.declared.field.NumForm.TheVariants.{Bits, Boolean, Byte, Char, Integer, Longint}
use Rattle.rz_types.specs.Field.{case_and, field_and, no_cases, no_fields, Align, Array, Fill, Label, Number, PlainBody, PlainCases, PlainField, PlainNumber, Points, Switch, Text}
use Rattle.rz_types.specs.Kept.{AreCasesKept, AreKept, IsKept, IsKeptWithin}
use Rattle.rz_types.specs.Range.{is_between}
use Rattle.rz_types_fields.specs.Laid.{unless}
use Rattle.rz_types.specs.Rules.{bad_width, may_be_width}
use Rattle.rz_types.specs.Shape.{are_cases_shaped, are_shaped, body_depth, deepest_body, is_fixed_number, is_key_shaped, is_none_or, is_number_shaped, is_own_name, is_own_width, is_shaped, is_symbol_of, is_well_shaped}
use Rattle.rz_types.specs.Walk.{and_names, around_names, names_of, Own}
use Rattle.rz_show.specs.Printable.{HasWidth, HasWidths, HaveWidths, IsWidth}

pub width_some : (width : ℤ) → IsWidth width → 0 < nat_abs width
width_some (pos n) is = omega (arith, ints, is.0)
width_some (negsuc n) is = absurd (omega (arith, ints, is.0))

pub width_most : (width : ℤ) → IsWidth width → nat_abs width ≤ 32
width_most (pos n) is = omega (arith, ints, is.1)
width_most (negsuc n) is = absurd (omega (arith, ints, is.0))

same_width : (width own : ℤ) → int_eq width own ≡ true → IsWidth own → IsWidth width
same_width width own same is = subst IsWidth (sym ((Decides-int_eq width own).0 same)) is

bits_width : (width : ℤ) → unless (is_between (pos 1) (pos 32) width) width ≡ None → IsWidth width
bits_width width kept = grind (arith, nat_tests)

form_width : (form : NumForm) (width : ℤ) → is_own_width form width ≡ true → unless (may_be_width form width) width ≡ None → IsWidth width
form_width Bits width own kept = bits_width width kept
form_width Byte width own kept = same_width width (pos 8) own (omega arith, omega arith)
form_width Integer width own kept = same_width width (pos 16) own (omega arith, omega arith)
form_width Longint width own kept = same_width width (pos 32) own (omega arith, omega arith)
form_width Boolean width own kept = same_width width (pos 1) own (omega arith, omega arith)
form_width Char width own kept = same_width width (pos 8) own (omega arith, omega arith)

pub number_width : (in_case : Bool) (number : PlainNumber) → is_number_shaped in_case number ≡ true → unless (may_be_width number.form number.width) number.width ≡ None → IsWidth number.width
number_width in_case number is kept =
    let own : Bool = is_own_width number.form number.width in
    let front : Bool = own && list_all (is_symbol_of number.form number.width) number.symbols in
    let one = both (front && is_fixed_number number.symbols number.fixed) (if number.key then is_key_shaped in_case number else true) is in
    let two = both front (is_fixed_number number.symbols number.fixed) one.0 in
    form_width number.form number.width (both own (list_all (is_symbol_of number.form number.width) number.symbols) two.0).0 kept

mutual
  field_width : (scope : Own) (in_case : Bool) (field : PlainField) → is_shaped in_case field ≡ true → bad_width field ≡ None → IsKeptWithin scope field → HasWidth field
  field_width scope in_case (Number number) is wide kept = number_width in_case number is wide
  field_width scope in_case (Text text) is wide kept = tt
  field_width scope in_case (Points points) is wide kept = tt
  field_width scope in_case (Fill unit count) is wide kept = tt
  field_width scope in_case (Align unit) is wide kept = tt
  field_width scope in_case (Label name) is wide kept = tt
  field_width scope in_case (Array name count row) is wide kept = body_widths (and_names (and_names scope (around_names name)) (names_of row)) false row (both (is_none_or is_own_name name) (are_shaped false row) is).1 kept.2
  field_width scope in_case (Switch cases) is wide kept = cases_widths scope cases is kept.1

  cases_widths : (scope : Own) (cases : PlainCases) → are_cases_shaped cases ≡ true → AreCasesKept scope cases → HaveWidths cases
  cases_widths scope no_cases is kept = tt
  cases_widths scope (case_and name row others) is kept =
      let all = both (is_own_name name) (are_shaped true row && are_cases_shaped others) is in
      let each = both (are_shaped true row) (are_cases_shaped others) all.1 in
      (body_widths (and_names scope (names_of row)) true row each.0 kept.1, cases_widths scope others each.1 kept.2)

  body_widths : (scope : Own) (in_case : Bool) (body : PlainBody) → are_shaped in_case body ≡ true → AreKept scope body → HasWidths body
  body_widths scope in_case no_fields is kept = tt
  body_widths scope in_case (field_and field fields) is kept =
      let each = both (is_shaped in_case field) (are_shaped in_case fields) is in
      (field_width scope in_case field each.0 kept.0 kept.2, body_widths scope in_case fields each.1 kept.3)

-- its fields are shaped, whatever stands in them
pub fields_shaped : (body : PlainBody) → is_well_shaped body ≡ true → are_shaped false body ≡ true
fields_shaped body is = (both (are_shaped false body) (nat_le (body_depth body) deepest_body) is).0

pub kept_widths : (body : PlainBody) → is_well_shaped body ≡ true → IsKept body → HasWidths body
kept_widths body shaped kept = body_widths (names_of body) false body (fields_shaped body shaped) kept.1
