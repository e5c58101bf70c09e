-- The places of labels in rows, row by row in one list, and the rows by what names have at their ends.
use Rattle.std.proofs.Common.{◌≡◌, ℕ, zero, suc, ◌+◌, ◌-◌, ◌*◌, ◌<◌, ◌≤◌, ℤ, pos, negsuc, Bool, true, false, ◌&&◌, List, [], ◌∷◌, ◌++◌, length, Option, None, refl, sym, ap, ◌∙◌, arith}
use Rattle.std.specs.Prelude.{if◌then◌else◌, int_le, option_and_then, slice_get}
use Rattle.std.proofs.lemmas.Bool.Decides.{nat_tests}
use Rattle.std.proofs.lemmas.List.{append_assoc, append-nil}
use Rattle.rz_expr.specs.Environment.{count_of, place_in, place_of, row_in, rows_of, Environment, Key}
use Rattle.rz_types_fields.specs.Field.{PlainBody}
use Rattle.rz_types_fields.specs.Passed.{gives_rows, has_label}
use Rattle.rz_types_fields.specs.FlatRows.{label_index, labels_count, row_value, AllPlacesAre, PlacesAre}
use Rattle.rz_types_fields.specs.RowLabels.{rows_give}
use Rattle.rz_types_fields.proofs.RowPlaces.{get_behind, get_front, index_short, place_there, places_length}

-- one row more after others
pub and_row_places : (row : PlainBody) (ends : List Environment) (own : Environment) (places more : List ℤ) → AllPlacesAre row ends places → PlacesAre own row more
    → AllPlacesAre row (ends ++ own ∷ []) (places ++ more)
and_row_places row [] own places more none are = (more, [], ap (λ (p : List ℤ). p ++ more) none ∙ sym (append-nil more), are, refl)
and_row_places row (end ∷ ends) own places more (first, others, is, one, rest) are = (
  first,
  others ++ more,
  ap (λ (p : List ℤ). p ++ more) is ∙ append_assoc first others more,
  one,
  and_row_places row ends own others more rest are,
)

get_beyond : {X : Type 0} (xs : List X) (i : ℕ) → length xs ≤ i → slice_get xs i ≡ None
get_beyond [] i past = refl
get_beyond (x ∷ xs) zero past = absurd (omega (arith, past))
get_beyond (x ∷ xs) (suc i) past = get_beyond xs i (omega (arith, past))

row_more : (j k i n : ℕ) → n ≡ k → suc j * k + i ≡ n + (j * k + i)
row_more j k i n same = grind (arith, same)

-- a label has its place at the end of its row
place_at : (row : PlainBody) (ends : List Environment) (places : List ℤ) → AllPlacesAre row ends places → (label : List ℕ) → has_label row label ≡ true → (j : ℕ) → j < length ends
    → slice_get places (j * labels_count row + label_index row label) ≡ option_and_then (λ own. own.give (place_of label)) (slice_get ends j)
place_at row [] places are label has j less = absurd (omega (arith, less))
place_at row (own ∷ ends) places (first, others, is, one, rest) label has zero less =
    let i = label_index row label in
    let short : i < length first = (let a = index_short row label has in let b = places_length own row first one in omega (arith, a, b)) in
    let there = place_there own row first label one has in
    let front : 0 * labels_count row + i ≡ i = omega (arith) in
    (λ n. slice_get (is n) (front n)) ∙ get_front first others i short ∙ there.1 ∙ sym there.2
place_at row (own ∷ ends) places (first, others, is, one, rest) label has (suc j) less =
    let k = labels_count row in
    let i = label_index row label in
    ap (λ (p : List ℤ). slice_get p (suc j * k + i)) is
    ∙ get_behind first others (j * k + i) (suc j * k + i) (row_more j k i (length first) (places_length own row first one))
    ∙ place_at row ends others rest label has j (omega (arith, less))

-- by its number
in_row : (row : PlainBody) (ends : List Environment) (places : List ℤ) → AllPlacesAre row ends places → (label : List ℕ) → has_label row label ≡ true → (number : ℤ)
    → row_value row (length ends) places (place_in label number) ≡ rows_give ends (place_in label number)
in_row row ends places are label has (negsuc n) = refl
in_row row ends places are label has (pos zero) = refl
in_row row ends places are label has (pos (suc j)) = by (int_le (pos (suc j)) (pos (length ends))) refl
  where
    low : int_le (pos 1) (pos (suc j)) ≡ true
    low = grind (arith, nat_tests)

    before : suc j - 1 ≡ j
    before = omega (arith)

    by : (test : Bool) → int_le (pos (suc j)) (pos (length ends)) ≡ test
        → (if int_le (pos 1) (pos (suc j)) && int_le (pos (suc j)) (pos (length ends)) then slice_get places ((suc j - 1) * labels_count row + label_index row label) else None)
        ≡ option_and_then (λ own. own.give (place_of label)) (slice_get ends j)
    by true is =
        let less : j < length ends = grind (arith, nat_tests, is) in
        (λ i. if low i && is i then slice_get places (before i * labels_count row + label_index row label) else None) ∙ place_at row ends places are label has j less
    by false is =
        let past : length ends ≤ j = grind (arith, nat_tests, is) in
        (λ i. if low i && is i then slice_get places ((suc j - 1) * labels_count row + label_index row label) else None)
        ∙ sym (ap (option_and_then (λ own. own.give (place_of label))) (get_beyond ends j past))

-- So what the code holds row by row is what the rows give by their ends.
pub rows_value_is : (row : PlainBody) (ends : List Environment) (places : List ℤ) → AllPlacesAre row ends places → (key : Key) → gives_rows row key ≡ true
    → row_value row (length ends) places key ≡ rows_give ends key
rows_value_is row ends places are (place_of name) gives = refl
rows_value_is row ends places are (count_of name) gives = refl
rows_value_is row ends places are (rows_of label) gives = refl
rows_value_is row ends places are (place_in label number) gives = in_row row ends places are label gives number
rows_value_is row ends places are (row_in name) gives = refl

-- so a note of them says
pub noted_rows : (row : PlainBody) (ends : List Environment) (count : ℕ) (places : List ℤ) → length ends ≡ count → AllPlacesAre row ends places → (key : Key) (before : Option ℤ)
    → (if gives_rows row key then row_value row count places key else before) ≡ (if gives_rows row key then rows_give ends key else before)
noted_rows row ends count places long are key before = by (gives_rows row key) refl
  where
    by : (test : Bool) → gives_rows row key ≡ test → (if test then row_value row count places key else before) ≡ (if test then rows_give ends key else before)
    by true gives = ap (λ (n : ℕ). row_value row n places key) (sym long) ∙ rows_value_is row ends places are key gives
    by false gives = refl
