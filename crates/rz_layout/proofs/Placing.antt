-- The labels in the rows of an array, after all of them, by what names have at the ends of the rows.
use Rattle.std.proofs.Common.{◌≡◌, ℕ, zero, suc, ◌+◌, ◌<◌, ℤ, pos, negsuc, Bool, true, false, ◌||◌, not, List, [], ◌∷◌, length, Option, Some, None, refl, sym, ap, subst, ◌∙◌, arith}
use Rattle.std.specs.Prelude.{if◌then◌else◌, int_le, int_lt, nat_lt, option_and_then, slice_get}
use Rattle.std.proofs.lemmas.Bool.Decides.{nat_tests}
use Rattle.rz_core.proofs.Tests.{or_false, same_some, true_false}
use Rattle.rz_expr.specs.Environment.{count_of, place_in, place_of, row_in, rows_of, Environment, Key}
use Rattle.rz_types_fields.specs.Field.{PlainBody}
use Rattle.rz_types_fields.specs.Passed.{gives_rows, has_label, Names}
use Rattle.rz_types_fields.specs.RowLabels.{also_rows, rows_give, RowOf}
use Rattle.rz_types_fields.specs.Spells.{AreRows, HasPlace}
use Rattle.rz_layout.proofs.Later.{is_later}
use Rattle.rz_layout.proofs.Sees.{is_in_row, Alike, IsRowIn}

-- Numbers of rows.

not_less : (a b : ℤ) → int_lt a b ≡ false → int_le b a ≡ true
not_less (pos a) (pos b) is = grind (arith, nat_tests, is)
not_less (pos a) (negsuc b) is = refl
not_less (negsuc a) (pos b) is = absurd (true_false is)
not_less (negsuc a) (negsuc b) is = grind (arith, nat_tests, is)

-- the number of a row is one from 1 on
pub row_from : (rows number : ℤ) → IsRowIn rows number → (int_le (pos 1) number ≡ true) × (int_le number rows ≡ true)
row_from rows number inside =
    let each = or_false (int_lt number (pos 1)) (int_lt rows number) inside in
    (not_less number (pos 1) each.0, not_less rows number each.1)

-- and back
pub row_in_rows : (count j : ℕ) → j < count → IsRowIn (pos count) (pos (1 + j))
row_in_rows count j less =
    let low : nat_lt (1 + j) 1 ≡ false = grind (arith, nat_tests) in
    let high : nat_lt count (1 + j) ≡ false = grind (arith, nat_tests, less) in
    λ i. low i || high i

-- Ends.

-- the place that a row has outside, by the names in it
pub place_moves : (which : Option RowOf) (label : List ℕ) (names one other : Environment) → one.give (place_of label) ≡ other.give (place_of label) → HasPlace which label names one → HasPlace which label names other
place_moves None label names one other same has = tt
place_moves (Some row) label names one other same has = has ∙ same

-- names have the places of labels at the ends of rows, of which the first has this number, by the numbers of the rows
abbrev pub EndsAre : PlainBody → Environment → ℕ → List Environment → Type 0
EndsAre row names number [] = Unit {0}
EndsAre row names number (own ∷ ends) =
    ((label : List ℕ) → has_label row label ≡ true → names.give (place_in label (pos number)) ≡ own.give (place_of label)) × EndsAre row names (number + 1) ends

-- a place at the end of a row by its index
abbrev end_place : List Environment → List ℕ → ℕ → Option ℤ
end_place ends label j = option_and_then (λ own. own.give (place_of label)) (slice_get ends j)

place_at : (row : PlainBody) (names : Environment) (number : ℕ) (ends : List Environment) → EndsAre row names number ends → (label : List ℕ) → has_label row label ≡ true → (j : ℕ) → j < length ends
    → names.give (place_in label (pos (number + j))) ≡ end_place ends label j
place_at row names number [] are label has j less = absurd (omega (arith, less))
place_at row names number (own ∷ ends) are label has zero less =
    let same : number + 0 ≡ number = omega (arith) in ap (λ (n : ℕ). names.give (place_in label (pos n))) same ∙ are.0 label has
place_at row names number (own ∷ ends) are label has (suc j) less =
    let same : number + suc j ≡ number + 1 + j = omega (arith) in
    ap (λ (n : ℕ). names.give (place_in label (pos n))) same ∙ place_at row names (number + 1) ends are.1 label has j (omega (arith, less))

pub ends_by : (row : PlainBody) (names : Environment) (number : ℕ) (ends : List Environment)
    → ((label : List ℕ) (j : ℕ) → has_label row label ≡ true → j < length ends → names.give (place_in label (pos (number + j))) ≡ end_place ends label j) → EndsAre row names number ends
ends_by row names number [] so = tt
ends_by row names number (own ∷ ends) so = (first, ends_by row names (number + 1) ends others)
  where
    first : (label : List ℕ) → has_label row label ≡ true → names.give (place_in label (pos number)) ≡ own.give (place_of label)
    first label has = let same : number ≡ number + 0 = omega (arith) in ap (λ (n : ℕ). names.give (place_in label (pos n))) same ∙ so label 0 has (omega (arith))

    others : (label : List ℕ) (j : ℕ) → has_label row label ≡ true → j < length ends → names.give (place_in label (pos (number + 1 + j))) ≡ end_place ends label j
    others label j has less = let same : number + 1 + j ≡ number + suc j = omega (arith) in ap (λ (n : ℕ). names.give (place_in label (pos n))) same ∙ so label (suc j) has (omega (arith, less))

-- Rows.

pub placed_row : (row : PlainBody) (names : Environment) (ends : List Environment) → EndsAre row names 1 ends → (label : List ℕ) (number : ℤ) → has_label row label ≡ true → IsRowIn (pos (length ends)) number
    → rows_give ends (place_in label number) ≡ names.give (place_in label number)
placed_row row names ends are label (negsuc n) has inside = absurd (true_false (sym (row_from (pos (length ends)) (negsuc n) inside).0))
placed_row row names ends are label (pos zero) has inside = absurd (true_false (sym (row_from (pos (length ends)) (pos zero) inside).0))
placed_row row names ends are label (pos (suc j)) has inside =
    let high = (row_from (pos (length ends)) (pos (suc j)) inside).1 in
    let less : j < length ends = grind (arith, nat_tests, high) in
    let same : suc j ≡ 1 + j = omega (arith) in
    sym (ap (λ (n : ℕ). names.give (place_in label (pos n))) same ∙ place_at row names 1 ends are label has j less)

-- after all rows a label in one of them has the place by the number that it has at the end of the row
pub row_place_is : (ends : List Environment) (label : List ℕ) (j : ℕ) → rows_give ends (place_in label (pos (1 + j))) ≡ end_place ends label j
row_place_is ends label j = let same : 1 + j ≡ suc j = omega (arith) in ap (λ (n : ℕ). rows_give ends (place_in label (pos n))) same

-- After all rows the labels in them have their values.
pub alike_rows : (row : PlainBody) (ends : List Environment) (met : Names) (known names : Environment) → AreRows row (length ends) names → EndsAre row names 1 ends → Alike met known names
    → Alike (λ key. gives_rows row key || met key) (also_rows row ends known) names
alike_rows row ends met known names are stand alike = record { names = by; places = λ label rows number was is inside. in_rows label rows number was is inside (has_label row label) refl }
  where
    rows_are : (name : List ℕ) → not (has_label row name || met (rows_of name)) ≡ false → (test : Bool) → has_label row name ≡ test
        → (if has_label row name then Some (pos (length ends)) else known.give (rows_of name)) ≡ names.give (rows_of name)
    rows_are name early true is = ap (λ (test : Bool). if test then Some (pos (length ends)) else known.give (rows_of name)) is ∙ sym (are.give name is)
    rows_are name early false is =
        ap (λ (test : Bool). if test then Some (pos (length ends)) else known.give (rows_of name)) is
        ∙ alike.names (rows_of name) refl (sym (ap (λ (test : Bool). not (test || met (rows_of name))) is) ∙ early)

    by : (key : Key) → is_in_row key ≡ false → is_later (λ key. gives_rows row key || met key) key ≡ false → (also_rows row ends known).give key ≡ names.give key
    by (place_of name) own early = alike.names (place_of name) refl early
    by (count_of name) own early = alike.names (count_of name) refl refl
    by (rows_of name) own early = rows_are name early (has_label row name) refl
    by (place_in name number) own early = absurd (true_false own)
    by (row_in name) own early = alike.names (row_in name) refl refl

    in_rows : (label : List ℕ) (rows number : ℤ) → (has_label row label || met (rows_of label)) ≡ true → names.give (rows_of label) ≡ Some rows → IsRowIn rows number → (test : Bool) → has_label row label ≡ test
        → (if has_label row label then rows_give ends (place_in label number) else known.give (place_in label number)) ≡ names.give (place_in label number)
    in_rows label rows number was is inside true own =
        ap (λ (test : Bool). if test then rows_give ends (place_in label number) else known.give (place_in label number)) own
        ∙ placed_row row names ends stand label number own
        (subst (λ (r : ℤ). IsRowIn r number) (same_some (names.give (rows_of label)) rows (pos (length ends)) is (are.give label own)) inside)
    in_rows label rows number was is inside false own =
        ap (λ (test : Bool). if test then rows_give ends (place_in label number) else known.give (place_in label number)) own
        ∙ alike.places label rows number (sym (ap (λ (test : Bool). test || met (rows_of label)) own) ∙ was) is inside
