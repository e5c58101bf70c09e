-- A fault of what is seen is the fault in every sight in which the first is seen.
use Rattle.std.proofs.Common.{◌≡◌, ℕ, ℤ, pos, Bool, true, false, ◌||◌, List, Option, Some, None, Result, Ok, Err, refl, ap, ◌∙◌}
use Rattle.std.specs.Prelude.{◌+ℤ◌, if◌then◌else◌, int_lt}
use Rattle.std.proofs.lemmas.Bool.{false≢true}
use Rattle.rz_core.specs.Stop.{◌>>=◌}
use Rattle.rz_expr.specs.Environment.{Sight, IsSeenIn, place_key, count_key, rows_key, place_in_key, row_key}
use Rattle.rz_expr.specs.Term.{Term, Constant, Named, Indexed, RowsOf, RowNumber, BitsAt, FactOf, OfOne, OfTwo}
use Rattle.rz_expr.specs.Value.{known_value, known_bits, place_in_row, stays, value_of}
use Rattle.rz_expr.specs.declared.value.EvalFault.{EvalFault}
use Rattle.rz_expr.specs.declared.value.EvalFault.TheVariants.{UnknownName, BadIndex, LaterData, DataWidth}
use Rattle.rz_expr.proofs.Grows.{name_grows, value_grows}

-- a chain of which the first link has a fault that stays, or the rest has it for a value that stays
failing : {X Y : Type 0} (first other : Result X EvalFault) (next also : X → Result Y EvalFault) (fault : EvalFault)
    → ((x : X) → first ≡ Ok x → other ≡ Ok x) → (first ≡ Err fault → other ≡ Err fault) → ((x : X) → next x ≡ Err fault → also x ≡ Err fault)
    → (first >>= next) ≡ Err fault → (other >>= also) ≡ Err fault
failing (Ok x) other next also fault same stay goes_on is = ap (λ o. o >>= also) (same x refl) ∙ goes_on x is
failing (Err mine) other next also fault same stay goes_on is =
    let here : mine ≡ fault = cc in
    ap (λ o. o >>= also) (stay (ap (λ (f : EvalFault). Err f) here))

same_fault : (mine fault : EvalFault) → ◌≡◌ {A = Result ℤ EvalFault} (Err mine) (Err fault) → mine ≡ fault
same_fault mine fault is = cc

unknown_never : (name : List ℕ) (fault : EvalFault) → stays fault ≡ true → UnknownName (record { bytes = name }) ≡ fault → ⊥
unknown_never name fault stay is = false≢true (ap stays is ∙ stay)

later_never : (first end : ℤ) (fault : EvalFault) → stays fault ≡ true → LaterData first end ≡ fault → ⊥
later_never first end fault stay is = false≢true (ap stays is ∙ stay)

-- a name that has no value isn't such a fault
name_fails : (name : List ℕ) (known finished : Option ℤ) (fault : EvalFault) → stays fault ≡ true → known_value name known ≡ Err fault → known_value name finished ≡ Err fault
name_fails name (Some x) finished fault stay is = absurd cc
name_fails name None finished fault stay is = absurd (unknown_never name fault stay (same_fault (UnknownName (record { bytes = name })) fault is))

bits_fail : (first width : ℤ) (known finished : Option ℤ) (fault : EvalFault) → stays fault ≡ true → known_bits first width known ≡ Err fault → known_bits first width finished ≡ Err fault
bits_fail first width (Some x) finished fault stay is = absurd cc
bits_fail first width None finished fault stay is = absurd (later_never first (first +ℤ width) fault stay (same_fault (LaterData first (first +ℤ width)) fault is))

within : (test : Bool) (own : EvalFault) (some other : Result ℤ EvalFault) (fault : EvalFault) → (some ≡ Err fault → other ≡ Err fault)
    → (if test then Err own else some) ≡ Err fault → (if test then Err own else other) ≡ Err fault
within true own some other fault more is = is
within false own some other fault more is = more is

-- a label whose rows aren't known has no such fault
row_fails : (name : List ℕ) (known finished : Sight) → IsSeenIn known finished → (number : ℤ) (rows other : Option ℤ) → ((count : ℤ) → rows ≡ Some count → other ≡ Some count)
    → (fault : EvalFault) → stays fault ≡ true → place_in_row name known.names number rows ≡ Err fault → place_in_row name finished.names number other ≡ Err fault
row_fails name known finished seen number (Some rows) other more fault stay is =
    ap (place_in_row name finished.names number) (more rows refl)
    ∙ within (int_lt number (pos 1) || int_lt rows number) (BadIndex number) _ _ fault
    (name_fails name (known.names.give (place_in_key name number)) (finished.names.give (place_in_key name number)) fault stay) is
row_fails name known finished seen number None other more fault stay is = absurd (unknown_never name fault stay (same_fault (UnknownName (record { bytes = name })) fault is))

fails_so : (term : Term) (known finished : Sight) → IsSeenIn known finished → (fault : EvalFault) → stays fault ≡ true → value_of term known ≡ Err fault → value_of term finished ≡ Err fault
fails_so (Constant number) known finished seen fault stay is = absurd cc
fails_so (Named name) known finished seen fault stay is = name_fails name (known.names.give (place_key name)) (finished.names.give (place_key name)) fault stay is
fails_so (Indexed name index) known finished seen fault stay is =
    failing (value_of index known) (value_of index finished) _ _ fault (value_grows known finished seen index) (fails_so index known finished seen fault stay)
    (λ number. row_fails name known finished seen number (known.names.give (rows_key name)) (finished.names.give (rows_key name)) (seen.names.give (rows_key name)) fault stay) is
fails_so (RowNumber name) known finished seen fault stay is = name_fails name (known.names.give (row_key name)) (finished.names.give (row_key name)) fault stay is
fails_so (RowsOf name) known finished seen fault stay is = name_fails name (known.names.give (count_key name)) (finished.names.give (count_key name)) fault stay is
fails_so (BitsAt name start width) known finished seen fault stay is =
    failing (known_value name (known.names.give (place_key name))) (known_value name (finished.names.give (place_key name))) _ _ fault
    (name_grows name (known.names.give (place_key name)) (finished.names.give (place_key name)) (seen.names.give (place_key name)))
    (name_fails name (known.names.give (place_key name)) (finished.names.give (place_key name)) fault stay)
    (λ place. failing (value_of start known) (value_of start finished) _ _ fault (value_grows known finished seen start) (fails_so start known finished seen fault stay)
    (λ behind. failing (value_of width known) (value_of width finished) _ _ fault (value_grows known finished seen width) (fails_so width known finished seen fault stay)
    (λ size. within (int_lt size (pos 1) || int_lt (pos 32) size) (DataWidth size) _ _ fault
    (bits_fail (place +ℤ behind) size (known.bits (place +ℤ behind) size) (finished.bits (place +ℤ behind) size) fault stay)))) is
fails_so (FactOf which) known finished seen fault stay is = absurd cc
fails_so (OfOne op operand) known finished seen fault stay is =
    failing (value_of operand known) (value_of operand finished) _ _ fault (value_grows known finished seen operand) (fails_so operand known finished seen fault stay) (λ x done. done) is
fails_so (OfTwo op left right) known finished seen fault stay is =
    failing (value_of left known) (value_of left finished) _ _ fault (value_grows known finished seen left) (fails_so left known finished seen fault stay)
    (λ one. failing (value_of right known) (value_of right finished) _ _ fault (value_grows known finished seen right) (fails_so right known finished seen fault stay) (λ other done. done)) is

pub fault_stays : (known finished : Sight) → IsSeenIn known finished → (term : Term) (fault : EvalFault) → stays fault ≡ true → value_of term known ≡ Err fault → value_of term finished ≡ Err fault
fault_stays known finished seen term fault stay is = fails_so term known finished seen fault stay is
