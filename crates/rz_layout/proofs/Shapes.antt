-- The fields of a template can be laid with the values of a row.
use Rattle.std.proofs.Common.{◌≡◌, inl, inr, ℕ, zero, suc, ◌<◌, ℤ, pos, Bool, true, false, ◌&&◌, ◌==◌, List, [], ◌∷◌, length, Option, Some, None, sym, ap, subst, ◌∙◌, arith}
use Rattle.std.specs.Prelude.{if◌then◌else◌, not}
use Rattle.std.specs.Ordering.{int_eq}
use Rattle.std.proofs.lemmas.Bool.Decides.{nat_tests, Decides-int_eq}
use Rattle.std.specs.List.{list_all, AllByRecursion}
use Rattle.std.specs.Option.{is_none}
use Rattle.std.specs.Str.{str_eq_ignore_ascii_case}
use Rattle.rz_core.proofs.Tests.{both, true_false}
use Rattle.rz_core.specs.declared.resource.Word.{Word}
use Rattle.rz_expr.specs.Term.{Term}
use Rattle.rz_layout.specs.Sound.{AreSound, IsCaseSound, IsGroupBy, IsSound, IsWidth}
use Rattle.rz_types_fields.specs.declared.field.NumForm.{NumForm}
use Rattle.rz_types_fields.specs.declared.field.NumForm.TheVariants.{Bits, Boolean, Byte, Char, Integer, Longint}
use Rattle.rz_types_fields.specs.declared.tree.Tree.{Tree}
use Rattle.rz_types_fields.specs.declared.tree.Tree.TheVariants as trees
use Rattle.rz_types_fields.specs.Laid.{first_value, line_in, other_values, rows_in, unless}
use Rattle.rz_types_fields.specs.Row.{IsChoice, IsRow, IsValue}
use Rattle.rz_types_fields.specs.Spells.{group_in, is_case}
use Rattle.rz_types_fields.specs.Field.{case_and, field_and, no_cases, no_fields, takes_value, Align, Array, Fill, Label, Number, PlainBody, PlainCases, PlainField, PlainNumber, PlainPoints, Points, Switch, Text}
use Rattle.rz_types.specs.Kept.{AreCasesKept, AreKept, Differ, IsKept, IsKeptWithin}
use Rattle.rz_types_fields.specs.Range.{is_between}
use Rattle.rz_types.specs.Rules.{bad_width, case_names, may_be_width}
use Rattle.rz_types_fields.specs.Shape.{are_cases_shaped, are_shaped, is_fixed_number, is_key_shaped, is_none_or, is_number_shaped, is_own_name, is_own_width, is_shaped, is_symbol_of, is_unit, is_well_shaped}
use Rattle.rz_types.specs.Walk.{and_names, around_names, names_of, Own}
use Rattle.rz_layout.proofs.Rows.{choice_differs, fronted, other_name, Takes}
use Rattle.rz_layout.proofs.Trees.{choice_is, group_is, line_is, rows_are}

-- Widths and units.

same_width : (width own : ℤ) → int_eq width own ≡ true → IsWidth own → IsWidth width
same_width width own same is = subst IsWidth (sym ((Decides-int_eq width own).0 same)) is

bits_width : (width : ℤ) → unless (is_between (pos 1) (pos 32) width) width ≡ None → IsWidth width
bits_width width kept = grind (arith, nat_tests)

form_width : (form : NumForm) (width : ℤ) → is_own_width form width ≡ true → unless (may_be_width form width) width ≡ None → IsWidth width
form_width Bits width own kept = bits_width width kept
form_width Byte width own kept = same_width width (pos 8) own (omega arith, omega arith)
form_width Integer width own kept = same_width width (pos 16) own (omega arith, omega arith)
form_width Longint width own kept = same_width width (pos 32) own (omega arith, omega arith)
form_width Boolean width own kept = same_width width (pos 1) own (omega arith, omega arith)
form_width Char width own kept = same_width width (pos 8) own (omega arith, omega arith)

number_width : (in_case : Bool) (number : PlainNumber) → is_number_shaped in_case number ≡ true → unless (may_be_width number.form number.width) number.width ≡ None → IsWidth number.width
number_width in_case number is kept =
    let own : Bool = is_own_width number.form number.width in
    let front : Bool = own && list_all (is_symbol_of number.form number.width) number.symbols in
    let one = both (front && is_fixed_number number.symbols number.fixed) (if number.key then is_key_shaped in_case number else true) is in
    let two = both front (is_fixed_number number.symbols number.fixed) one.0 in
    form_width number.form number.width (both own (list_all (is_symbol_of number.form number.width) number.symbols) two.0).0 kept

unit_above : (unit : ℕ) → (is_unit unit && not (unit == 1)) ≡ true → 0 < unit
unit_above zero is = absurd (true_false (sym is))
unit_above (suc unit) is = omega arith

-- Values.

group_by : (points : PlainPoints) (fixed : Option (List Term)) (value : Option Tree) → Takes (is_none fixed) (IsValue (Points points)) value → IsGroupBy points.rect fixed value
group_by points None value (v, (numbers, is, count, small), some) =
    ap (λ (ns : List ℕ). length ns) (ap group_in (some ∙ ap (λ (t : Tree). Some t) is) ∙ group_is numbers) ∙ count
group_by points (Some terms) value none = none

all_rows : (P Q : List Tree → Type 0) → ((row : List Tree) → P row → Q row) → (rows : List (List Tree)) → AllByRecursion P rows → AllByRecursion Q rows
all_rows P Q so [] all = tt
all_rows P Q so (row ∷ rows) all = (so row all.0, all_rows P Q so rows all.1)

array_sound : (name : Option Word) (count : Option ℤ) (row : PlainBody) → ((line : List Tree) → IsRow row line → AreSound row line) → (value : Option Tree)
    → Takes true (IsValue (Array name count row)) value → AllByRecursion (AreSound row) (rows_in value)
array_sound name count row so value (v, (rows, is, stated, are), some) =
    subst (AllByRecursion (AreSound row)) (sym (ap rows_in (some ∙ ap (λ (t : Tree). Some t) is) ∙ rows_are rows)) (all_rows (IsRow row) (AreSound row) so rows are)

-- what is no case of a switch is sound in it
passed : (cases : PlainCases) (value : Option Tree) → AllByRecursion (λ name. is_case name value ≡ false) (case_names cases) → IsCaseSound cases value
passed no_cases value none = tt
passed (case_and name row others) value none = ((λ is. absurd (true_false (sym is ∙ none.0))), passed others value none.1)

others_passed : (name : Word) (line : List Tree) (names : List Word) → AllByRecursion (λ later. str_eq_ignore_ascii_case name.bytes later.bytes ≡ false) names
    → AllByRecursion (λ later. is_case later (Some (trees.Choice name line)) ≡ false) names
others_passed name line [] differ = tt
others_passed name line (later ∷ names) differ =
    (ap (str_eq_ignore_ascii_case later.bytes) (choice_is name line) ∙ other_name name.bytes later.bytes differ.0, others_passed name line names differ.1)

-- Fields, cases and bodies.

mutual
  field_sound : (scope : Own) (in_case : Bool) (field : PlainField) → is_shaped in_case field ≡ true → bad_width field ≡ None → IsKeptWithin scope field
      → (value : Option Tree) → Takes (takes_value field) (IsValue field) value → IsSound field value
  field_sound scope in_case (Number number) is wide kept value has = number_width in_case number is wide
  field_sound scope in_case (Text text) is wide kept value has = tt
  field_sound scope in_case (Points points) is wide kept value has = group_by points points.fixed value has
  field_sound scope in_case (Fill unit count) is wide kept value has = tt
  field_sound scope in_case (Align unit) is wide kept value has = unit_above unit is
  field_sound scope in_case (Label name) is wide kept value has = tt
  field_sound scope in_case (Array name count row) is wide kept value has =
      array_sound name count row (λ line are. body_sound (and_names (and_names scope (around_names name)) (names_of row)) false row (both (is_none_or is_own_name name) (are_shaped false row) is).1 kept.2 line are) value has
  field_sound scope in_case (Switch cases) is wide kept value has =
      (kept.0, subst (IsCaseSound cases) (sym has.2) (cases_sound scope cases is kept.0 kept.1 has.0 has.1))

  cases_sound : (scope : Own) (cases : PlainCases) → are_cases_shaped cases ≡ true → Differ (case_names cases) → AreCasesKept scope cases
      → (v : Tree) → IsChoice cases v → IsCaseSound cases (Some v)
  cases_sound scope no_cases is differ kept v has = absurd has
  cases_sound scope (case_and name row others) is differ kept v (inl (line, is_choice, are)) =
      let some : Some v ≡ Some (trees.Choice name line) = ap (λ (t : Tree). Some t) is_choice in
      let all = both (is_own_name name) (are_shaped true row && are_cases_shaped others) is in
      let each = both (are_shaped true row) (are_cases_shaped others) all.1 in (
        (λ chosen. subst (AreSound row) (sym (ap line_in some ∙ line_is name line)) (body_sound (and_names scope (names_of row)) true row each.0 kept.1 line are)),
        subst (IsCaseSound others) (sym some) (passed others (Some (trees.Choice name line)) (others_passed name line (case_names others) differ.0)),
      )
  cases_sound scope (case_and name row others) is differ kept v (inr has) =
      let all = both (is_own_name name) (are_shaped true row && are_cases_shaped others) is in
      let each = both (are_shaped true row) (are_cases_shaped others) all.1 in (
        (λ chosen. absurd (true_false (sym chosen ∙ choice_differs name others differ.0 v has))),
        cases_sound scope others each.1 differ.1 kept.2 v has,
      )

  body_sound : (scope : Own) (in_case : Bool) (body : PlainBody) → are_shaped in_case body ≡ true → AreKept scope body
      → (row : List Tree) → IsRow body row → AreSound body row
  body_sound scope in_case no_fields is kept row has = tt
  body_sound scope in_case (field_and field fields) is kept row (rest, one, others) =
      let each = both (is_shaped in_case field) (are_shaped in_case fields) is in
      let front = fronted (takes_value field) (IsValue field) row rest one in (
        field_sound scope in_case field each.0 kept.0 kept.2 (first_value (takes_value field) row) front.one,
        body_sound scope in_case fields each.1 kept.3 (other_values (takes_value field) row) (subst (IsRow fields) front.others others),
      )

pub sound_row : (body : PlainBody) (row : List Tree) → is_well_shaped body ≡ true → IsKept body → IsRow body row → AreSound body row
sound_row body row shaped kept are = body_sound (names_of body) false body (both _ _ shaped).0 kept.1 row are
