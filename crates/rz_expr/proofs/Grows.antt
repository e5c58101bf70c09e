-- What is a value in one sight is the value in every sight in which the first is seen.
use Rattle.std.proofs.Common.{◌≡◌, ℕ, ℤ, pos, Bool, true, false, ◌||◌, List, Option, Some, None, Result, Ok, Err, refl, sym, ap, ◌∙◌}
use Rattle.std.specs.Prelude.{◌+ℤ◌, if◌then◌else◌, int_lt, IfOk}
use Rattle.rz_core.specs.Stop.{◌>>=◌, Gives}
use Rattle.rz_core.specs.declared.stop.Stop.{Stop}
use Rattle.rz_core.specs.declared.stop.Stop.TheVariants.{Refused, NoMemory}
use Rattle.rz_expr.specs.Environment.{Sight, IsSeenIn, place_key, count_key, rows_key, place_in_key, row_key}
use Rattle.rz_expr.specs.Term.{Term, Constant, Named, Indexed, RowsOf, RowNumber, BitsAt, FactOf, OfOne, OfTwo}
use Rattle.rz_expr.specs.Value.{known_value, known_bits, number_at, place_in_row, reduced, value_of}
use Rattle.rz_expr.specs.declared.value.EvalFault.{EvalFault}
use Rattle.rz_expr.specs.declared.value.EvalFault.TheVariants.{BadIndex, DataWidth}

-- a chain has a value where its first link has one, and the rest of the chain for that
record Links {X Y : Type 0} (first : Result X EvalFault) (next : X → Result Y EvalFault) (value : Y) : Type 0 where
  link : X
  has : first ≡ Ok link
  goes_on : next link ≡ Ok value

links : {X Y : Type 0} (first : Result X EvalFault) (next : X → Result Y EvalFault) (value : Y) → (first >>= next) ≡ Ok value → Links first next value
links (Ok x) next value is = record { link = x; has = refl; goes_on = is }
links (Err fault) next value is = absurd cc

linked : {X Y : Type 0} (first : Result X EvalFault) (next : X → Result Y EvalFault) (x : X) (value : Y) → first ≡ Ok x → next x ≡ Ok value → (first >>= next) ≡ Ok value
linked first next x value has goes_on = rw has goes_on

-- a chain whose links are values there too
chained : {X Y : Type 0} (first other : Result X EvalFault) (next also : X → Result Y EvalFault) (value : Y)
    → ((x : X) → first ≡ Ok x → other ≡ Ok x) → ((x : X) → next x ≡ Ok value → also x ≡ Ok value)
    → (first >>= next) ≡ Ok value → (other >>= also) ≡ Ok value
chained first other next also value same goes_on is =
    let l = links first next value is in
    linked other also l.link value (same l.link l.has) (goes_on l.link l.goes_on)

pub name_grows : (name : List ℕ) (known finished : Option ℤ) → ((value : ℤ) → known ≡ Some value → finished ≡ Some value)
    → (value : ℤ) → known_value name known ≡ Ok value → known_value name finished ≡ Ok value
name_grows name (Some x) finished more value is = ap (known_value name) (more x refl) ∙ is
name_grows name None finished more value is = absurd cc

bits_grow : (first width : ℤ) (known finished : Option ℤ) → ((value : ℤ) → known ≡ Some value → finished ≡ Some value)
    → (value : ℤ) → known_bits first width known ≡ Ok value → known_bits first width finished ≡ Ok value
bits_grow first width (Some x) finished more value is = ap (known_bits first width) (more x refl) ∙ is
bits_grow first width None finished more value is = absurd cc

within : (test : Bool) (fault : EvalFault) (some other : Result ℤ EvalFault) (value : ℤ) → (some ≡ Ok value → other ≡ Ok value)
    → (if test then Err fault else some) ≡ Ok value → (if test then Err fault else other) ≡ Ok value
within true fault some other value more is = absurd cc
within false fault some other value more is = more is

module _ (known finished : Sight) (seen : IsSeenIn known finished) where
  number_grows : (first width value : ℤ) → number_at known first width ≡ Ok value → number_at finished first width ≡ Ok value
  number_grows first width value is =
      within (int_lt width (pos 1) || int_lt (pos 32) width) (DataWidth width) _ _ value
      (bits_grow first width (known.bits first width) (finished.bits first width) (seen.bits first width) value) is

  row_grows : (name : List ℕ) (number : ℤ) (rows other : Option ℤ) → ((count : ℤ) → rows ≡ Some count → other ≡ Some count)
      → (value : ℤ) → place_in_row name known.names number rows ≡ Ok value → place_in_row name finished.names number other ≡ Ok value
  row_grows name number (Some rows) other more value is =
      ap (place_in_row name finished.names number) (more rows refl)
      ∙ within (int_lt number (pos 1) || int_lt rows number) (BadIndex number) _ _ value (name_grows name _ _ (seen.names.give (place_in_key name number)) value) is
  row_grows name number None other more value is = absurd cc

  pub value_grows : (term : Term) (value : ℤ) → value_of term known ≡ Ok value → value_of term finished ≡ Ok value
  value_grows (Constant number) value is = is
  value_grows (Named name) value is = name_grows name _ _ (seen.names.give (place_key name)) value is
  value_grows (Indexed name index) value is =
      chained (value_of index known) (value_of index finished) _ _ value (value_grows index)
      (λ number. row_grows name number (known.names.give (rows_key name)) (finished.names.give (rows_key name)) (seen.names.give (rows_key name)) value) is
  value_grows (RowNumber name) value is = name_grows name _ _ (seen.names.give (row_key name)) value is
  value_grows (RowsOf name) value is = name_grows name _ _ (seen.names.give (count_key name)) value is
  value_grows (BitsAt name start width) value is =
      chained (known_value name (known.names.give (place_key name))) (known_value name (finished.names.give (place_key name))) _ _ value
      (name_grows name _ _ (seen.names.give (place_key name)))
      (λ place. chained (value_of start known) (value_of start finished) _ _ value (value_grows start)
      (λ behind. chained (value_of width known) (value_of width finished) _ _ value (value_grows width)
      (λ size. number_grows (place +ℤ behind) size value))) is
  value_grows (FactOf which) value is = ap (λ (x : ℤ). Ok (reduced x)) (sym (seen.fact which)) ∙ is
  value_grows (OfOne op operand) value is =
      chained (value_of operand known) (value_of operand finished) _ _ value (value_grows operand) (λ x done. done) is
  value_grows (OfTwo op left right) value is =
      chained (value_of left known) (value_of left finished) _ _ value (value_grows left)
      (λ one. chained (value_of right known) (value_of right finished) _ _ value (value_grows right) (λ other done. done)) is

  -- so a call that gives the value in the first gives it in the second
  pub given_grows : (term : Term) (result : Result ℤ (Stop EvalFault)) → Gives (value_of term known) result → IfOk result (λ value. value_of term finished ≡ Ok value)
  given_grows term (Ok value) is = value_grows term value is
  given_grows term (Err (Refused fault)) is = tt
  given_grows term (Err NoMemory) is = tt
