-- The items of a row are no higher than its fields are deep, but for the brace of a point.
use Rattle.std.proofs.Common.{◌≡◌, ℕ, suc, ◌≤◌, List, [], ◌∷◌, Option, Some, None, refl, arith}
use Rattle.std.specs.Prelude.{Bool, true, false, max}
use Rattle.rz_core.proofs.Tests.{by_test}
use Rattle.rz_core.specs.declared.resource.Word.{Word}
use Rattle.rz_types_fields.specs.declared.field.NumForm.{NumForm}
use Rattle.rz_types_fields.specs.declared.field.NumForm.TheVariants.{Boolean, Char}
use Rattle.rz_types_fields.specs.declared.field.Radix.{Radix}
use Rattle.rz_types_fields.specs.declared.field.Radix.TheVariants.{Binary, Decimal, Hex, Literal, Octal, Plain}
use Rattle.rz_types_fields.specs.declared.field.Symbol.{Symbol}
use Rattle.rz_types_fields.specs.declared.tree.Tree.{Tree}
use Rattle.rz_types_fields.specs.Laid.{first_value, line_in, number_in, other_values, rows_in}
use Rattle.rz_types_fields.specs.Spells.{is_case}
use Rattle.rz_types.specs.Field.{case_and, field_and, no_cases, no_fields, takes_value, Align, Array, Fill, Label, Number, PlainBody, PlainCases, PlainField, PlainNumber, Points, Switch, Text}
use Rattle.rz_types.specs.Shape.{body_depth, cases_depth, field_depth}
use Rattle.rz_show.specs.Height.{height, heights, single_height}
use Rattle.rz_show.specs.Number.{by_form, by_literal, by_radix, by_truth, is_literal_width, named_or}
use Rattle.rz_show_lines.specs.Print.{no_prints, Print, Prints, Single}
use Rattle.rz_show.specs.Shown.{case_print, field_print, print_if, row_prints, rows_prints}

literal_low : (width number : ℕ) → single_height (by_literal width number) ≡ 0
literal_low width number = by_test (single_height (by_literal width number) ≡ 0) (is_literal_width width) (λ h. rw h refl) (λ h. rw h refl)

decimal_low : (unsigned : Bool) (width number : ℕ) → single_height (by_radix Plain unsigned width number) ≡ 0
decimal_low true width number = refl
decimal_low false width number = refl

radix_low : (radix : Radix) (unsigned : Bool) (width number : ℕ) → single_height (by_radix radix unsigned width number) ≡ 0
radix_low Plain unsigned width number = decimal_low unsigned width number
radix_low Decimal unsigned width number = decimal_low unsigned width number
radix_low Hex unsigned width number = refl
radix_low Octal unsigned width number = refl
radix_low Binary unsigned width number = refl
radix_low Literal unsigned width number = literal_low width number

truth_low : (symbols : List Symbol) (number : ℕ) → single_height (by_truth symbols number) ≡ 0
truth_low [] number = refl
truth_low (symbol ∷ symbols) number = refl

form_low : (form : NumForm) (field : PlainNumber) (number : ℕ) → single_height (by_form form field number) ≡ 0
form_low Char field number = refl
form_low Boolean field number = truth_low field.symbols number
form_low form field number = radix_low field.radix field.unsigned _ number

named_low : (hidden : List ℕ → Bool) (name : Option Word) (other : Single) → single_height other ≡ 0 → single_height (named_or hidden name other) ≡ 0
named_low hidden None other low = low
named_low hidden (Some name) other low = by_test (single_height (named_or hidden (Some name) other) ≡ 0) (hidden name.bytes) (λ h. rw h low) (λ h. rw h refl)

-- Rows.

rows_low : (row_in_front : List Tree → Prints → Prints) (most : ℕ) → ((row : List Tree) (more : Prints) → heights more ≤ most → heights (row_in_front row more) ≤ most)
    → (rows : List (List Tree)) → heights (rows_prints row_in_front rows) ≤ most
rows_low row_in_front most each [] = omega arith
rows_low row_in_front most each (row ∷ rows) = each row (rows_prints row_in_front rows) (rows_low row_in_front most each rows)

if_low : (shown : Bool) (one : Print) (others : Prints) (most : ℕ) → (shown ≡ true → height one ≤ most) → heights others ≤ most → heights (print_if shown one others) ≤ most
if_low true one others most first rest = let here = first refl in omega (arith, here, rest)
if_low false one others most first rest = rest

module _ (hidden : List ℕ → Bool) where
  mutual
    field_low : (field : PlainField) (value : Option Tree) → takes_value field ≡ true → height (field_print hidden field value) ≤ suc (field_depth field)
    field_low (Number number) value takes =
        let low : height (field_print hidden (Number number) value) ≡ 0 = named_low hidden _ _ (form_low number.form number (number_in value)) in omega (arith, low)
    field_low (Text text) value takes = omega arith
    field_low (Points points) value takes = omega arith
    field_low (Fill unit count) value takes = absurd cc
    field_low (Align unit) value takes = absurd cc
    field_low (Label name) value takes = absurd cc
    field_low (Array name count row) value takes =
        let low = rows_low (row_prints hidden row) (suc (body_depth row)) (λ line more h. row_low row line more (suc (body_depth row)) (omega arith) h) (rows_in value) in omega (arith, low)
    field_low (Switch cases) value takes = case_low cases value

    -- such items in front of more
    pub row_low : (body : PlainBody) (row : List Tree) (more : Prints) (most : ℕ) → suc (body_depth body) ≤ most → heights more ≤ most → heights (row_prints hidden body row more) ≤ most
    row_low no_fields row more most low behind = behind
    row_low (field_and field fields) row more most low behind =
        let value = first_value (takes_value field) row in
        if_low (takes_value field) (field_print hidden field value) (row_prints hidden fields (other_values (takes_value field) row) more) most
        (λ takes. let here = field_low field value takes in omega (arith, here, low))
        (row_low fields (other_values (takes_value field) row) more most (omega (arith, low)) behind)

    case_low : (cases : PlainCases) (value : Option Tree) → height (case_print hidden cases value) ≤ suc (suc (cases_depth cases))
    case_low no_cases value = omega arith
    case_low (case_and name row others) value =
        let most = suc (suc (max (body_depth row) (cases_depth others))) in
        let chosen = row_low row (line_in value) no_prints (suc (body_depth row)) (omega arith) (omega arith) in
        let rest = case_low others value in
        by_test (height (case_print hidden (case_and name row others) value) ≤ most) (is_case name value)
        (λ h. rw h (omega (arith, chosen)))
        (λ h. rw h (omega (arith, rest)))
