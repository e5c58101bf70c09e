-- The fields of a template fit what the code asks of them.
use Rattle.std.proofs.Common.{◌≡◌, ℕ, zero, suc, ◌<◌, ◌≤◌, ℤ, pos, Bool, true, false, ◌&&◌, ◌==◌, None, sym, subst, arith}
use Rattle.std.specs.Prelude.{if◌then◌else◌, nat_abs, not}
use Rattle.std.specs.Ordering.{int_eq}
use Rattle.std.proofs.lemmas.Bool.Decides.{nat_tests, Decides-int_eq}
use Rattle.std.specs.List.{list_all}
use Rattle.rz_core.proofs.Tests.{both, true_false}
use Rattle.rz_types_fields.specs.declared.field.NumForm.{NumForm}
use Rattle.rz_types_fields.specs.declared.field.NumForm.TheVariants.{Bits, Boolean, Byte, Char, Integer, Longint}
use Rattle.rz_types_fields.specs.Field.{case_and, field_and, no_cases, no_fields, Align, Array, Fill, Label, Number, PlainBody, PlainCases, PlainField, PlainNumber, Points, Switch, Text}
use Rattle.rz_types.specs.Kept.{AreCasesApart, AreCasesKept, AreKept, AreKeysApart, AreKeysApartIn, IsKept, IsKeptWithin}
use Rattle.rz_types_fields.specs.Range.{is_between}
use Rattle.rz_types_fields.specs.Laid.{unless}
use Rattle.rz_types.specs.Rules.{bad_width, may_be_width}
use Rattle.rz_types_fields.specs.Shape.{are_cases_shaped, are_shaped, is_fixed_number, is_key_shaped, is_none_or, is_number_shaped, is_own_name, is_own_width, is_shaped, is_symbol_of, is_unit, is_well_shaped}
use Rattle.rz_types.specs.Walk.{and_names, around_names, names_of, Own}
use Rattle.rz_unlay.specs.Fits.{AreFit, CasesFit, Fits}

-- Widths and units.

same_width : (width : ℤ) (own : ℕ) → int_eq width (pos own) ≡ true → own ≤ 32 → nat_abs width ≤ 32
same_width width own same le = subst (λ (w : ℤ). nat_abs w ≤ 32) (sym ((Decides-int_eq width (pos own)).0 same)) le

bits_width : (width : ℤ) → unless (is_between (pos 1) (pos 32) width) width ≡ None → nat_abs width ≤ 32
bits_width width kept = grind (arith, nat_tests)

form_width : (form : NumForm) (width : ℤ) → is_own_width form width ≡ true → unless (may_be_width form width) width ≡ None → nat_abs width ≤ 32
form_width Bits width own kept = bits_width width kept
form_width Byte width own kept = same_width width 8 own (omega arith)
form_width Integer width own kept = same_width width 16 own (omega arith)
form_width Longint width own kept = same_width width 32 own (omega arith)
form_width Boolean width own kept = same_width width 1 own (omega arith)
form_width Char width own kept = same_width width 8 own (omega arith)

number_fits : (in_case : Bool) (number : PlainNumber) → is_number_shaped in_case number ≡ true → unless (may_be_width number.form number.width) number.width ≡ None → nat_abs number.width ≤ 32
number_fits in_case number is kept =
    let own : Bool = is_own_width number.form number.width in
    let front : Bool = own && list_all (is_symbol_of number.form number.width) number.symbols in
    let one = both (front && is_fixed_number number.symbols number.fixed) (if number.key then is_key_shaped in_case number else true) is in
    let two = both front (is_fixed_number number.symbols number.fixed) one.0 in
    form_width number.form number.width (both own (list_all (is_symbol_of number.form number.width) number.symbols) two.0).0 kept

unit_above : (unit : ℕ) → (is_unit unit && not (unit == 1)) ≡ true → 0 < unit
unit_above zero is = absurd (true_false (sym is))
unit_above (suc unit) is = omega arith

-- Fields, cases and bodies.

mutual
  field_fits : (scope : Own) (in_case : Bool) (field : PlainField) → is_shaped in_case field ≡ true → bad_width field ≡ None → IsKeptWithin scope field → AreKeysApartIn field → Fits field
  field_fits scope in_case (Number number) is wide kept apart = number_fits in_case number is wide
  field_fits scope in_case (Text text) is wide kept apart = tt
  field_fits scope in_case (Points points) is wide kept apart = tt
  field_fits scope in_case (Fill unit count) is wide kept apart = tt
  field_fits scope in_case (Align unit) is wide kept apart = unit_above unit is
  field_fits scope in_case (Label name) is wide kept apart = tt
  field_fits scope in_case (Array name count row) is wide kept apart =
      body_fits (and_names (and_names scope (around_names name)) (names_of row)) false row (both (is_none_or is_own_name name) (are_shaped false row) is).1 kept.2 apart
  field_fits scope in_case (Switch cases) is wide kept apart = cases_fit scope cases is kept.1 apart

  cases_fit : (scope : Own) (cases : PlainCases) → are_cases_shaped cases ≡ true → AreCasesKept scope cases → AreCasesApart cases → CasesFit cases
  cases_fit scope no_cases is kept apart = tt
  cases_fit scope (case_and name row others) is kept apart =
      let all = both (is_own_name name) (are_shaped true row && are_cases_shaped others) is in
      let each = both (are_shaped true row) (are_cases_shaped others) all.1 in
      (apart.0, body_fits (and_names scope (names_of row)) true row each.0 kept.1 apart.1, cases_fit scope others each.1 kept.2 apart.2)

  body_fits : (scope : Own) (in_case : Bool) (body : PlainBody) → are_shaped in_case body ≡ true → AreKept scope body → AreKeysApart body → AreFit body
  body_fits scope in_case no_fields is kept apart = tt
  body_fits scope in_case (field_and field fields) is kept apart =
      let each = both (is_shaped in_case field) (are_shaped in_case fields) is in
      (field_fits scope in_case field each.0 kept.0 kept.2 apart.0, body_fits scope in_case fields each.1 kept.3 apart.1)

pub template_fits : (body : PlainBody) → is_well_shaped body ≡ true → IsKept body → AreKeysApart body → AreFit body
template_fits body shaped kept apart = body_fits (names_of body) false body (both _ _ shaped).0 kept.1 apart
