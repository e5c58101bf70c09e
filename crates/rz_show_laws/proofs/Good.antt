-- What is shown of a row may be written.
use Rattle.std.proofs.Common.{◌≡◌, inl, inr, ℕ, zero, suc, ◌+◌, ◌-◌, ◌*◌, ◌/◌, ◌^◌, ◌<◌, ◌≤◌, Bool, true, false, ◌&&◌, List, [], ◌∷◌, map, Option, Some, None, refl, sym, ap, subst, ◌∙◌, arith}
use Rattle.std.specs.Prelude.{◌==◌, nat_abs, nat_lt}
use Rattle.std.specs.List.{list_any, AllByRecursion}
use Rattle.std.specs.Option.{is_none}
use Rattle.std.proofs.lemmas.Bool.{eqb-true}
use Rattle.std.proofs.lemmas.Bool.Decides.{nat_tests}
use Rattle.std.proofs.lemmas.Nat.{pow-add}
use Rattle.std.proofs.Math.Nat.{pow-suc}
use Rattle.std.proofs.Math.Pow.{pow_mono}
use Rattle.rz_core.proofs.Lists.{all_append}
use Rattle.rz_core.proofs.Tests.{both, by_test, or_false, true_false}
use Rattle.rz_core.specs.Numbers.{be, length-be_1, length-be_2, length-be_4}
use Rattle.rz_core.specs.declared.resource.Word.{Word}
use Rattle.rz_lex.specs.Printed.{AreBytes}
use Rattle.rz_types_fields.specs.declared.field.NumForm.{NumForm}
use Rattle.rz_types_fields.specs.declared.field.NumForm.TheVariants.{Bits, Boolean, Byte, Char, Integer, Longint}
use Rattle.rz_types_fields.specs.declared.field.Radix.{Radix}
use Rattle.rz_types_fields.specs.declared.field.Radix.TheVariants.{Binary, Decimal, Hex, Literal, Octal, Plain}
use Rattle.rz_types_fields.specs.declared.field.Symbol.{Symbol}
use Rattle.rz_types_fields.specs.declared.tree.Tree.{Tree}
use Rattle.rz_types_fields.specs.Laid.{first_value, line_in, number_in, other_values, rows_in, text_in}
use Rattle.rz_types_fields.specs.Row.{By, IsChoice, IsRow, IsValue}
use Rattle.rz_types_fields.specs.Spells.{group_in, is_case}
use Rattle.rz_types.specs.Field.{case_and, field_and, no_cases, no_fields, takes_value, Align, Array, Fill, Label, Number, PlainBody, PlainCases, PlainField, PlainNumber, Points, Switch, Text}
use Rattle.rz_types.specs.Kept.{AreCasesKept, AreKept, Differ, IsKept, IsKeptWithin}
use Rattle.rz_types.specs.Rules.{bad_width, case_names}
use Rattle.rz_types.specs.Shape.{are_cases_shaped, are_shaped, is_none_or, is_own_name, is_shaped, is_well_shaped}
use Rattle.rz_types.specs.Value.{symbol_value}
use Rattle.rz_types.specs.Walk.{and_names, around_names, names_of, Own}
use Rattle.rz_show.specs.Number.{by_decimal, by_form, by_hex, by_literal, by_radix, by_truth, by_value, is_literal_width, is_stored, named_or, number_shown, symbol_for, truth}
use Rattle.rz_show_lines.specs.Print.{group_rest, group_written, no_prints, signed_number, signed_written, single_written, Print, Prints}
use Rattle.rz_show_lines.specs.Good.{AreGood, IsGood}
use Rattle.rz_show.specs.Printable.{AreOfBytes, HasName, HasNames, HaveNames, IsCaseOfBytes, IsOfBytes, IsWidth, SparesTruth}
use Rattle.rz_show_lines.specs.Written.{a_literal, IsName, IsPut, IsWritten}
use Rattle.rz_show.specs.Shown.{case_print, case_uses, field_print, field_uses, print_if, row_prints, row_uses, rows_prints, text_print}
use Rattle.rz_show.proofs.Names.{shaped_names}
use Rattle.rz_show_lines.proofs.Texts.{four_bytes, pieces_small}
use Rattle.rz_show.proofs.Trees.{choice_chosen, choice_differs, fronted, group_is, line_is, number_is, rows_are, taken, Takes}
use Rattle.rz_show.proofs.Widths.{fields_shaped, number_width, width_most, width_some}

-- Numbers.

half : (width : ℕ) → 0 < width → 2 ^ width ≡ 2 * 2 ^ (width - 1)
half width some =
    let one : width ≡ suc (width - 1) = omega arith in
    ap (λ (k : ℕ). 2 ^ k) one ∙ pow-suc 2 (width - 1) ∙ omega arith

sixteen : (k : ℕ) → 16 ^ k ≡ 2 ^ (4 * k)
sixteen zero = refl
sixteen (suc k) = pow-suc 16 k ∙ ap (λ (x : ℕ). x * 16) (sixteen k) ∙ sym (pow-add 2 (4 * k) 4) ∙ ap (λ (x : ℕ). 2 ^ x) (four k)
  where
    four : (k : ℕ) → 4 * k + 4 ≡ 4 * suc k
    four k = omega arith

one_byte : (n : ℕ) → AreBytes (be 1 n)
unfolding be
one_byte n = (omega arith, tt)

two_bytes : (n : ℕ) → AreBytes (be 2 n)
unfolding be
two_bytes n = (omega arith, (omega arith, tt))

literal_good : (width n : ℕ) → is_literal_width width ≡ true → IsWritten (a_literal (be (width / 8) n))
literal_good width n is = by_test (IsWritten (a_literal (be (width / 8) n))) (width == 8)
    (λ h. subst (λ (x : ℕ). IsWritten (a_literal (be (x / 8) n))) (sym (eqb-true width 8 h)) (one_byte n, omega (arith, length-be_1 n), omega (arith, length-be_1 n)))
    (λ h. by_test (IsWritten (a_literal (be (width / 8) n))) (width == 16)
    (λ k. subst (λ (x : ℕ). IsWritten (a_literal (be (x / 8) n))) (sym (eqb-true width 16 k)) (two_bytes n, omega (arith, length-be_2 n), omega (arith, length-be_2 n)))
    (λ k. subst (λ (x : ℕ). IsWritten (a_literal (be (x / 8) n))) (sym (eqb-true width 32 (rw (h, k) at is))) (four_bytes n, omega (arith, length-be_4 n), omega (arith, length-be_4 n))))

module _ (hidden : List ℕ → Bool) where
  signed_good : (width n : ℕ) → 0 < width → width ≤ 32 → n < 2 ^ width → AllByRecursion (IsPut hidden) (signed_written (signed_number width n))
  signed_good width n some most below = by_test (AllByRecursion (IsPut hidden) (signed_written (signed_number width n))) (nat_lt n (2 ^ (width - 1)))
      (λ h. let l : n < 2 ^ 32 = omega (arith, below, pow_mono {i = width} {j = 32} most) in rw h ((l, tt), tt))
      (λ h. let l : suc (2 ^ width - n - 1) < 2 ^ 32 = omega (arith, below, half width some, pow_mono {i = width} {j = 32} most, large h) in rw h ((refl, tt), ((l, tt), tt)))
    where
      large : nat_lt n (2 ^ (width - 1)) ≡ false → 2 ^ (width - 1) ≤ n
      large h = grind (arith, nat_tests)

  hex_good : (width n : ℕ) → 0 < width → width ≤ 32 → n < 2 ^ width → AllByRecursion (IsPut hidden) (single_written (by_hex width n))
  hex_good width n some most below =
      (((omega arith, omega arith, omega (arith, below, sixteen ((width + 3) / 4), pow_mono {i = width} {j = 4 * ((width + 3) / 4)} (omega arith)), omega (arith, below, pow_mono {i = width} {j = 32} most)), tt), tt)

  decimal_good : (unsigned : Bool) (width n : ℕ) → 0 < width → width ≤ 32 → n < 2 ^ width → AllByRecursion (IsPut hidden) (single_written (by_decimal unsigned width n))
  decimal_good true width n some most below = ((omega (arith, below, pow_mono {i = width} {j = 32} most), tt), tt)
  decimal_good false width n some most below = signed_good width n some most below

  radix_good : (radix : Radix) (unsigned : Bool) (width n : ℕ) → 0 < width → width ≤ 32 → n < 2 ^ width → AllByRecursion (IsPut hidden) (single_written (by_radix radix unsigned width n))
  radix_good Plain unsigned width n some most below = decimal_good unsigned width n some most below
  radix_good Decimal unsigned width n some most below = decimal_good unsigned width n some most below
  radix_good Hex unsigned width n some most below = hex_good width n some most below
  radix_good Octal unsigned width n some most below = ((omega (arith, below, pow_mono {i = width} {j = 32} most), tt), tt)
  radix_good Binary unsigned width n some most below = (((some, most, below, omega (arith, below, pow_mono {i = width} {j = 32} most)), tt), tt)
  radix_good Literal unsigned width n some most below = by_test (AllByRecursion (IsPut hidden) (single_written (by_literal width n))) (is_literal_width width)
      (λ h. rw h ((literal_good width n h, tt), tt))
      (λ h. rw h (hex_good width n some most below))

  truth_good : SparesTruth hidden → (n : ℕ) → AllByRecursion (IsPut hidden) (single_written (truth n))
  truth_good spares n = by_test (AllByRecursion (IsPut hidden) (single_written (truth n))) (n == 0)
      (λ h. rw h (((refl, omega arith), spares.of_false), tt))
      (λ h. rw h (((refl, omega arith), spares.of_true), tt))

  by_truth_good : SparesTruth hidden → (symbols : List Symbol) (n : ℕ) → n < 2 ^ 32 → AllByRecursion (IsPut hidden) (single_written (by_truth symbols n))
  by_truth_good spares [] n below = truth_good spares n
  by_truth_good spares (s ∷ symbols) n below = ((below, tt), tt)

  form_good : SparesTruth hidden → (form : NumForm) (field : PlainNumber) (n : ℕ) → 0 < nat_abs field.width → nat_abs field.width ≤ 32 → n < 2 ^ nat_abs field.width
      → AllByRecursion (IsPut hidden) (single_written (by_form form field n))
  form_good spares Char field n some most below = ((((omega arith), tt), tt), tt)
  form_good spares Boolean field n some most below = by_truth_good spares field.symbols n (omega (arith, below, pow_mono {i = nat_abs field.width} {j = 32} most))
  form_good spares Bits field n some most below = radix_good field.radix field.unsigned (nat_abs field.width) n some most below
  form_good spares Byte field n some most below = radix_good field.radix field.unsigned (nat_abs field.width) n some most below
  form_good spares Integer field n some most below = radix_good field.radix field.unsigned (nat_abs field.width) n some most below
  form_good spares Longint field n some most below = radix_good field.radix field.unsigned (nat_abs field.width) n some most below

  symbol_name : (all symbols : List Symbol) (width n : ℕ) (name : Word) → AllByRecursion (λ (s : Symbol). IsName s.name.bytes) symbols → symbol_for all width n symbols ≡ Some name → IsName name.bytes
  symbol_name all [] width n name each is = absurd cc
  symbol_name all (s ∷ symbols) width n name each is = by_test (IsName name.bytes) (is_stored width n (symbol_value all s.name.bytes))
      (λ h. subst (λ (w : Word). IsName w.bytes) (same s.name name (rw h at is)) each.0)
      (λ h. symbol_name all symbols width n name each.1 (rw h at is))
    where
      same : (a b : Word) → ◌≡◌ {A = Option Word} (Some a) (Some b) → a ≡ b
      same a b e = cc

  number_good : SparesTruth hidden → (field : PlainNumber) (n : ℕ) → IsWidth field.width → AllByRecursion (λ (s : Symbol). IsName s.name.bytes) field.symbols → n < 2 ^ nat_abs field.width
      → AllByRecursion (IsPut hidden) (single_written (number_shown hidden field n))
  number_good spares field n width each below = go (symbol_for field.symbols (nat_abs field.width) n field.symbols) refl
    where
      by_value_good : AllByRecursion (IsPut hidden) (single_written (by_value field n))
      by_value_good = form_good spares field.form field n (width_some field.width width) (width_most field.width width) below

      go : (o : Option Word) → symbol_for field.symbols (nat_abs field.width) n field.symbols ≡ o → AllByRecursion (IsPut hidden) (single_written (named_or hidden o (by_value field n)))
      go None e = by_value_good
      go (Some name) e = by_test (AllByRecursion (IsPut hidden) (single_written (named_or hidden (Some name) (by_value field n)))) (hidden name.bytes)
          (λ h. rw h by_value_good)
          (λ h. rw h ((symbol_name field.symbols field.symbols (nat_abs field.width) n name each e, h), tt))

  -- Points.

  rest_good : (ns : List ℕ) → AllByRecursion (λ n. n < 65536) ns → AllByRecursion (IsPut hidden) (group_rest (map (signed_number 16) ns))
  rest_good [] each = ((refl, tt), tt)
  rest_good (n ∷ ns) each =
      ((refl, tt), ((tt, tt), all_append (IsPut hidden) (signed_written (signed_number 16 n)) (group_rest (map (signed_number 16) ns)) (signed_good 16 n (omega arith) (omega arith) each.0) (rest_good ns each.1)))

  group_good : (ns : List ℕ) → AllByRecursion (λ n. n < 65536) ns → AllByRecursion (IsPut hidden) (group_written (map (signed_number 16) ns))
  group_good [] each = ((refl, tt), ((refl, tt), tt))
  group_good (n ∷ ns) each =
      ((refl, tt), all_append (IsPut hidden) (signed_written (signed_number 16 n)) (group_rest (map (signed_number 16) ns)) (signed_good 16 n (omega arith) (omega arith) each.0) (rest_good ns each.1))

  -- Texts.

  pub text_good : (hex : Bool) (bytes : List ℕ) → AreBytes bytes → IsGood hidden (text_print hex bytes)
  text_good true bytes small = pieces_small 16 16 bytes small
  text_good false bytes small = pieces_small 64 64 bytes small

  -- Rows.

  rows_good : (go : List Tree → Prints → Prints) (P : List Tree → Type 0) → ((row : List Tree) (more : Prints) → P row → AreGood hidden more → AreGood hidden (go row more))
      → (rows : List (List Tree)) → AllByRecursion P rows → AreGood hidden (rows_prints go rows)
  rows_good go P each [] all = tt
  rows_good go P each (row ∷ rows) all = each row (rows_prints go rows) all.0 (rows_good go P each rows all.1)

  if_good : (takes : Bool) (item : Print) (others : Prints) → (takes ≡ true → IsGood hidden item) → AreGood hidden others → AreGood hidden (print_if takes item others)
  if_good true item others one all = (one refl, all)
  if_good false item others one all = all

-- a row of these fields that can be shown
pub record IsShowable (hidden : List ℕ → Bool) (body : PlainBody) (row : List Tree) : Type 0 where
  pub is : IsRow body row
  pub bytes : AreOfBytes body row
  pub uses : row_uses hidden body row ≡ false

all_showable : (hidden : List ℕ → Bool) (body : PlainBody) (rows : List (List Tree)) → AllByRecursion (IsRow body) rows → AllByRecursion (AreOfBytes body) rows
    → list_any (row_uses hidden body) rows ≡ false → AllByRecursion (IsShowable hidden body) rows
all_showable hidden body [] are bytes uses = tt
all_showable hidden body (row ∷ rows) are bytes uses =
    let each = or_false (row_uses hidden body row) (list_any (row_uses hidden body) rows) uses in
    (record { is = are.0; bytes = bytes.0; uses = each.0 }, all_showable hidden body rows are.1 bytes.1 each.1)

chosen : (test : Bool) (A B : Type 0) → By test A B → test ≡ true → A
chosen true A B has is = has
chosen false A B has is = absurd (true_false (sym is))

passed : (test : Bool) (A B : Type 0) → By test A B → test ≡ false → B
passed true A B has is = absurd (true_false is)
passed false A B has is = has

module _ (hidden : List ℕ → Bool) (spares : SparesTruth hidden) where
  mutual
    field_good : (scope : Own) (in_case : Bool) (field : PlainField) → is_shaped in_case field ≡ true → bad_width field ≡ None → IsKeptWithin scope field → HasName field
        → (value : Option Tree) → Takes (takes_value field) (IsValue field) value → IsOfBytes field value → field_uses hidden field value ≡ false → takes_value field ≡ true
        → IsGood hidden (field_print hidden field value)
    field_good scope in_case (Number number) shaped wide kept names value has bytes uses takes =
        let one = taken (is_none number.fixed) (IsValue (Number number)) value has takes in
        let here : number_in value ≡ one.1.0 = ap number_in (one.2 ∙ ap (λ (t : Tree). Some t) one.1.1) ∙ number_is one.1.0 in
        subst (λ (n : ℕ). AllByRecursion (IsPut hidden) (single_written (number_shown hidden number n))) (sym here) (number_good hidden spares number one.1.0 (number_width in_case number shaped wide) names one.1.2)
    field_good scope in_case (Text text) shaped wide kept names value has bytes uses takes = text_good hidden text.hex (text_in value) bytes
    field_good scope in_case (Points points) shaped wide kept names value has bytes uses takes =
        let one = taken (is_none points.fixed) (IsValue (Points points)) value has takes in
        let numbers_are : group_in value ≡ one.1.0 = ap group_in (one.2 ∙ ap (λ (t : Tree). Some t) one.1.1) ∙ group_is one.1.0 in
        subst (λ (ns : List ℕ). AllByRecursion (IsPut hidden) (group_written (map (signed_number 16) ns))) (sym numbers_are) (group_good hidden one.1.0 one.1.3)
    field_good scope in_case (Fill unit count) shaped wide kept names value has bytes uses takes = tt
    field_good scope in_case (Align unit) shaped wide kept names value has bytes uses takes = tt
    field_good scope in_case (Label name) shaped wide kept names value has bytes uses takes = tt
    field_good scope in_case (Array name count row) shaped wide kept names value has bytes uses takes =
        let rows_is : rows_in value ≡ has.1.0 = ap rows_in (has.2 ∙ ap (λ (t : Tree). Some t) has.1.1) ∙ rows_are has.1.0 in
        rows_good hidden (row_prints hidden row) (IsShowable hidden row)
        (λ line more showable good. body_good (and_names (and_names scope (around_names name)) (names_of row)) false row (both (is_none_or is_own_name name) (are_shaped false row) shaped).1 kept.2 names line more showable good)
        (rows_in value) (all_showable hidden row (rows_in value) (subst (AllByRecursion (IsRow row)) (sym rows_is) has.1.3) bytes uses)
    field_good scope in_case (Switch cases) shaped wide kept names value has bytes uses takes =
        subst (λ (o : Option Tree). IsGood hidden (case_print hidden cases o)) (sym has.2)
        (case_good scope cases shaped kept.0 kept.1 names has.0 has.1 (subst (IsCaseOfBytes cases) has.2 bytes) (ap (case_uses hidden cases) (sym has.2) ∙ uses))

    case_good : (scope : Own) (cases : PlainCases) → are_cases_shaped cases ≡ true → Differ (case_names cases) → AreCasesKept scope cases → HaveNames cases
        → (v : Tree) → IsChoice cases v → IsCaseOfBytes cases (Some v) → case_uses hidden cases (Some v) ≡ false → IsGood hidden (case_print hidden cases (Some v))
    case_good scope no_cases shaped differ kept names v has bytes uses = absurd has
    case_good scope (case_and name row others) shaped differ kept names v (inl (line, is_choice, are)) bytes uses =
        let all = both (is_own_name name) (are_shaped true row && are_cases_shaped others) shaped in
        let each = both (are_shaped true row) (are_cases_shaped others) all.1 in
        let is : is_case name (Some v) ≡ true = ap (λ (t : Tree). is_case name (Some t)) is_choice ∙ choice_chosen name line in
        let line_here : line_in (Some v) ≡ line = ap (λ (t : Tree). line_in (Some t)) is_choice ∙ line_is name line in
        let both_not = or_false (hidden name.bytes) (row_uses hidden row (line_in (Some v))) (rw is at uses) in
        rw is (
          names.0,
          both_not.0,
          body_good (and_names scope (names_of row)) true row each.0 kept.1 names.1 (line_in (Some v)) no_prints
              (record { is = subst (IsRow row) (sym line_here) are; bytes = chosen (is_case name (Some v)) _ _ bytes is; uses = both_not.1 }) tt,
        )
    case_good scope (case_and name row others) shaped differ kept names v (inr has) bytes uses =
        let all = both (is_own_name name) (are_shaped true row && are_cases_shaped others) shaped in
        let each = both (are_shaped true row) (are_cases_shaped others) all.1 in
        let is : is_case name (Some v) ≡ false = choice_differs name others differ.0 v has in
        rw is (case_good scope others each.1 differ.1 kept.2 names.2 v has (passed (is_case name (Some v)) _ _ bytes is) (rw is at uses))

    body_good : (scope : Own) (in_case : Bool) (body : PlainBody) → are_shaped in_case body ≡ true → AreKept scope body → HasNames body
        → (row : List Tree) (more : Prints) → IsShowable hidden body row → AreGood hidden more → AreGood hidden (row_prints hidden body row more)
    body_good scope in_case no_fields shaped kept names row more showable good = good
    body_good scope in_case (field_and field fields) shaped kept names row more showable good =
        let each = both (is_shaped in_case field) (are_shaped in_case fields) shaped in
        let front = fronted (takes_value field) (IsValue field) row showable.is.0 showable.is.1 in
        let first = first_value (takes_value field) row in
        let others = other_values (takes_value field) row in
        let neither = or_false (field_uses hidden field first) (row_uses hidden fields others) showable.uses in
        if_good hidden (takes_value field) (field_print hidden field first) (row_prints hidden fields others more)
        (λ takes. field_good scope in_case field each.0 kept.0 kept.2 names.0 first front.one showable.bytes.0 neither.0 takes)
        (body_good scope in_case fields each.1 kept.3 names.1 others more (record { is = subst (IsRow fields) front.others showable.is.2; bytes = showable.bytes.1; uses = neither.1 }) good)

pub row_good : (hidden : List ℕ → Bool) (body : PlainBody) (row : List Tree) (more : Prints) → SparesTruth hidden → is_well_shaped body ≡ true → IsKept body → IsRow body row → AreOfBytes body row
    → row_uses hidden body row ≡ false → AreGood hidden more → AreGood hidden (row_prints hidden body row more)
row_good hidden body row more spares shaped kept is bytes uses good =
    body_good hidden spares (names_of body) false body (fields_shaped body shaped) kept.1 (shaped_names body shaped) row more (record { is = is; bytes = bytes; uses = uses }) good
