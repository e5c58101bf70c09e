-- The items of a row are short.
use Rattle.std.proofs.Common.{◌≡◌, inl, inr, ℕ, ◌+◌, ◌/◌, ◌^◌, ◌<◌, ◌≤◌, Bool, true, false, List, [], ◌∷◌, length, map, Option, Some, refl, sym, ap, subst, ◌∙◌, arith}
use Rattle.std.specs.Prelude.{◌%◌, ◌==◌, nat_abs}
use Rattle.std.specs.List.{AllByRecursion}
use Rattle.std.proofs.lemmas.Bool.{eqb-true}
use Rattle.std.proofs.Math.Pow.{pow_mono}
use Rattle.rz_core.proofs.Tests.{by_test}
use Rattle.rz_core.specs.Numbers.{be, length-be_1, length-be_2, length-be_4}
use Rattle.rz_lex.proofs.DigitsBack.{how_many}
use Rattle.rz_types_fields.specs.declared.field.NumForm.{NumForm}
use Rattle.rz_types_fields.specs.declared.field.NumForm.TheVariants.{Boolean, Char}
use Rattle.rz_types_fields.specs.declared.field.Radix.{Radix}
use Rattle.rz_types_fields.specs.declared.field.Radix.TheVariants.{Binary, Decimal, Hex, Literal, Octal, Plain}
use Rattle.rz_types_fields.specs.declared.field.Symbol.{Symbol}
use Rattle.rz_types_fields.specs.declared.tree.Tree.{Tree}
use Rattle.rz_types_fields.specs.Laid.{first_value, line_in, other_values, rows_in, text_in}
use Rattle.rz_types_fields.specs.Row.{IsChoice, IsRow, IsValue}
use Rattle.rz_types_fields.specs.Shape.{numbers_of}
use Rattle.rz_types_fields.specs.Spells.{is_case}
use Rattle.rz_types.specs.Field.{case_and, field_and, no_cases, no_fields, takes_value, Align, Array, Fill, Label, Number, PlainBody, PlainCases, PlainField, PlainNumber, Points, Switch, Text}
use Rattle.rz_types.specs.Kept.{AreCasesKept, AreKept, Differ, IsKept, IsKeptWithin}
use Rattle.rz_types.specs.Rules.{case_names}
use Rattle.rz_types.specs.Shape.{is_well_shaped}
use Rattle.rz_types.specs.Value.{symbol_value}
use Rattle.rz_types.specs.Walk.{and_names, around_names, names_of, Own}
use Rattle.rz_show.specs.Number.{by_form, by_hex, by_literal, by_radix, by_truth, by_value, is_stored, named_or, number_shown, symbol_for, truth}
use Rattle.rz_show_lines.specs.Print.{group_written, no_prints, signed_number, single_written, Print, Prints, Single}
use Rattle.rz_show.specs.Printable.{HasName, HasNames, HasWidth, HasWidths, HaveNames, HaveWidths, IsWidth}
use Rattle.rz_show_lines.specs.Written.{a_binary, a_hex, a_literal, a_text, a_word, an_octal, octal_count, IsName}
use Rattle.rz_show.specs.Shown.{case_print, field_print, print_if, row_prints, rows_prints}
use Rattle.rz_show.proofs.Names.{shaped_names}
use Rattle.rz_show_lines.proofs.Octal.{octal_few}
use Rattle.rz_show.proofs.ShortHeads.{text_few}
use Rattle.rz_show_lines.proofs.ShortItems.{AreBrief, IsBrief}
use Rattle.rz_show_lines.proofs.ShortTokens.{group_short, positive_short, quoted_short, signed_short, size, size_one}
use Rattle.rz_show.proofs.Trees.{choice_chosen, choice_differs, fronted, group_is, line_is, number_is, rows_are, taken}
use Rattle.rz_show.proofs.Widths.{kept_widths, width_most}

-- Numbers.

-- what is shown on one line is short
abbrev IsLow : Single → Type 0
IsLow one = size (single_written one) ≤ 255

hex_low : (width n : ℕ) → width ≤ 32 → IsLow (by_hex width n)
hex_low width n most = omega (arith, size_one (a_hex ((width + 3) / 4) n) [], how_many 16 (omega arith) (omega arith) ((width + 3) / 4) n, most)

literal_size : (count n : ℕ) → length (be count n) ≤ 4 → size (a_literal (be count n) ∷ []) ≤ 255
literal_size count n few = omega (arith, size_one (a_literal (be count n)) [], quoted_short 39 (be count n), few)

literal_low : (width n : ℕ) → width ≤ 32 → IsLow (by_literal width n)
literal_low width n most = by_test (IsLow (by_literal width n)) (width == 8)
    (λ h. subst (λ (x : ℕ). IsLow (by_literal x n)) (sym (eqb-true width 8 h)) (literal_size 1 n (omega (arith, length-be_1 n))))
    (λ h. by_test (IsLow (by_literal width n)) (width == 16)
    (λ k. subst (λ (x : ℕ). IsLow (by_literal x n)) (sym (eqb-true width 16 k)) (literal_size 2 n (omega (arith, length-be_2 n))))
    (λ k. by_test (IsLow (by_literal width n)) (width == 32)
    (λ j. subst (λ (x : ℕ). IsLow (by_literal x n)) (sym (eqb-true width 32 j)) (literal_size 4 n (omega (arith, length-be_4 n))))
    (λ j. rw (h, k, j) (hex_low width n most))))

module _ (width n : ℕ) (most : width ≤ 32) (below : n < 2 ^ width) where
  decimal_low : (unsigned : Bool) → IsLow (by_radix Plain unsigned width n)
  decimal_low true = omega (arith, positive_short n (omega (arith, below, pow_mono {i = width} {j = 32} most)))
  decimal_low false = omega (arith, signed_short width n most below)

  radix_low : (radix : Radix) (unsigned : Bool) → IsLow (by_radix radix unsigned width n)
  radix_low Plain unsigned = decimal_low unsigned
  radix_low Decimal unsigned = decimal_low unsigned
  radix_low Hex unsigned = hex_low width n most
  radix_low Octal unsigned = omega (arith, size_one (an_octal n) [], how_many 8 (omega arith) (omega arith) (octal_count n) n, octal_few n)
  radix_low Binary unsigned = omega (arith, size_one (a_binary width n) [], how_many 2 (omega arith) (omega arith) width n, most)
  radix_low Literal unsigned = literal_low width n most

  truth_low : (symbols : List Symbol) → IsLow (by_truth symbols n)
  truth_low [] = by_test (IsLow (truth n)) (n == 0) (λ h. rw h (omega arith)) (λ h. rw h (omega arith))
  truth_low (symbol ∷ symbols) = decimal_low true

form_low : (form : NumForm) (field : PlainNumber) (n : ℕ) → nat_abs field.width ≤ 32 → n < 2 ^ nat_abs field.width → IsLow (by_form form field n)
form_low Char field n most below = omega (arith, size_one (a_text ((n % 256) ∷ [])) [], quoted_short 34 ((n % 256) ∷ []))
form_low Boolean field n most below = truth_low (nat_abs field.width) n most below field.symbols
form_low form field n most below = radix_low (nat_abs field.width) n most below field.radix field.unsigned

name_low : (hidden : List ℕ → Bool) (all : List Symbol) (width n : ℕ) (symbols : List Symbol) (other : Single) → AllByRecursion (λ (s : Symbol). IsName s.name.bytes) symbols
    → IsLow other → IsLow (named_or hidden (symbol_for all width n symbols) other)
name_low hidden all width n [] other each low = low
name_low hidden all width n (s ∷ symbols) other each low = by_test (IsLow (named_or hidden (symbol_for all width n (s ∷ symbols)) other)) (is_stored width n (symbol_value all s.name.bytes))
    (λ h. by_test (IsLow (named_or hidden (symbol_for all width n (s ∷ symbols)) other)) (hidden s.name.bytes)
    (λ k. rw (h, k) low)
    (λ k. rw (h, k) (omega (arith, size_one (a_word s.name.bytes) [], each.0.1))))
    (λ h. rw h (name_low hidden all width n symbols other each.1 low))

number_low : (hidden : List ℕ → Bool) (field : PlainNumber) (n : ℕ) → IsWidth field.width → AllByRecursion (λ (s : Symbol). IsName s.name.bytes) field.symbols → n < 2 ^ nat_abs field.width
    → IsLow (number_shown hidden field n)
number_low hidden field n width each below =
    name_low hidden field.symbols (nat_abs field.width) n field.symbols (by_value field n) each (form_low field.form field n (width_most field.width width) below)

-- two or four numbers of 16 bits
few_numbers : (rect : Bool) → numbers_of rect ≤ 4
few_numbers true = omega arith
few_numbers false = omega arith

-- Rows.

rows_brief : (row_in_front : List Tree → Prints → Prints) (P : List Tree → Type 0) → ((row : List Tree) (more : Prints) → P row → AreBrief more → AreBrief (row_in_front row more))
    → (rows : List (List Tree)) → AllByRecursion P rows → AreBrief (rows_prints row_in_front rows)
rows_brief row_in_front P each [] all = tt
rows_brief row_in_front P each (row ∷ rows) all = each row (rows_prints row_in_front rows) all.0 (rows_brief row_in_front P each rows all.1)

if_brief : (takes : Bool) (item : Print) (others : Prints) → (takes ≡ true → IsBrief item) → AreBrief others → AreBrief (print_if takes item others)
if_brief true item others one all = (one refl, all)
if_brief false item others one all = all

module _ (hidden : List ℕ → Bool) where
  mutual
    field_brief : (scope : Own) (field : PlainField) → HasWidth field → HasName field → IsKeptWithin scope field → (v : Tree) → IsValue field v → IsBrief (field_print hidden field (Some v))
    field_brief scope (Number number) width names kept v is =
        subst (λ (t : Tree). IsBrief (field_print hidden (Number number) (Some t))) (sym is.1)
        (subst (λ (n : ℕ). IsLow (number_shown hidden number n)) (sym (number_is is.0)) (number_low hidden number is.0 width names is.2))
    field_brief scope (Text text) width names kept v is = text_few text.hex (text_in (Some v))
    field_brief scope (Points points) width names kept v is =
        let few = few_numbers points.rect in
        subst (λ (t : Tree). IsBrief (field_print hidden (Points points) (Some t))) (sym is.1)
        (subst (λ (ns : List ℕ). size (group_written (map (signed_number 16) ns)) ≤ 255) (sym (group_is is.0)) (omega (arith, group_short is.0 is.3, is.2, few)))
    field_brief scope (Fill unit count) width names kept v is = tt
    field_brief scope (Align unit) width names kept v is = tt
    field_brief scope (Label name) width names kept v is = tt
    field_brief scope (Array name count row) width names kept v is =
        let rows_is : rows_in (Some v) ≡ is.0 = ap (λ (t : Tree). rows_in (Some t)) is.1 ∙ rows_are is.0 in
        rows_brief (row_prints hidden row) (IsRow row) (λ line more is_row brief. body_brief (and_names (and_names scope (around_names name)) (names_of row)) row width names kept.2 line more is_row brief)
        (rows_in (Some v)) (subst (AllByRecursion (IsRow row)) (sym rows_is) is.3)
    field_brief scope (Switch cases) width names kept v is = case_brief scope cases width names kept.0 kept.1 v is

    case_brief : (scope : Own) (cases : PlainCases) → HaveWidths cases → HaveNames cases → Differ (case_names cases) → AreCasesKept scope cases → (v : Tree) → IsChoice cases v
        → IsBrief (case_print hidden cases (Some v))
    case_brief scope no_cases widths names differ kept v is = absurd is
    case_brief scope (case_and name row others) widths names differ kept v (inl (line, is_choice, are)) =
        let is : is_case name (Some v) ≡ true = ap (λ (t : Tree). is_case name (Some t)) is_choice ∙ choice_chosen name line in
        let line_here : line_in (Some v) ≡ line = ap (λ (t : Tree). line_in (Some t)) is_choice ∙ line_is name line in
        rw is (names.0.1, body_brief (and_names scope (names_of row)) row widths.0 names.1 kept.1 (line_in (Some v)) no_prints (subst (IsRow row) (sym line_here) are) tt)
    case_brief scope (case_and name row others) widths names differ kept v (inr has) =
        let is : is_case name (Some v) ≡ false = choice_differs name others differ.0 v has in
        rw is (case_brief scope others widths.1 names.2 differ.1 kept.2 v has)

    body_brief : (scope : Own) (body : PlainBody) → HasWidths body → HasNames body → AreKept scope body → (row : List Tree) (more : Prints) → IsRow body row → AreBrief more
        → AreBrief (row_prints hidden body row more)
    body_brief scope no_fields widths names kept row more is brief = brief
    body_brief scope (field_and field fields) widths names kept row more is brief =
        let front = fronted (takes_value field) (IsValue field) row is.0 is.1 in
        let first = first_value (takes_value field) row in
        let others = other_values (takes_value field) row in
        if_brief (takes_value field) (field_print hidden field first) (row_prints hidden fields others more)
        (λ takes. let one = taken (takes_value field) (IsValue field) first front.one takes in
        subst (λ (o : Option Tree). IsBrief (field_print hidden field o)) (sym one.2) (field_brief scope field widths.0 names.0 kept.2 one.0 one.1))
        (body_brief scope fields widths.1 names.1 kept.3 others more (subst (IsRow fields) front.others is.2) brief)

pub row_brief : (hidden : List ℕ → Bool) (body : PlainBody) (row : List Tree) → is_well_shaped body ≡ true → IsKept body → IsRow body row → AreBrief (row_prints hidden body row no_prints)
row_brief hidden body row shaped kept is = body_brief hidden (names_of body) body (kept_widths body shaped kept) (shaped_names body shaped) kept.1 row no_prints is tt
