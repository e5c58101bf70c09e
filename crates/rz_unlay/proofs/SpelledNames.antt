-- What is known of names while bytes are read, and what stays so after it.
use Rattle.std.proofs.Common.{◌≡◌, ℕ, ◌≤◌, ◌^◌, ◌%◌, ℤ, pos, Bool, true, false, List, length, Option, Some, Result, Ok, Err, refl, ap, ◌∙◌}
use Rattle.std.specs.Prelude.{if◌then◌else◌, option_and_then, option_map}
use Rattle.std.specs.Int.{cast_unsigned, w64}
use Rattle.std.specs.Result.{result_ok}
use Rattle.rz_core.specs.declared.facts.Facts.{Facts}
use Rattle.rz_expr.proofs.Grows as sights
use Rattle.rz_expr.specs.Environment.{count_of, place_in, place_of, row_in, rows_of, Environment, IsPartOf, Key}
use Rattle.rz_expr.specs.Term.{BitsAt, Constant, FactOf, Indexed, Named, OfOne, OfTwo, RowNumber, RowsOf, Term}
use Rattle.rz_expr.specs.Value.{value_of}
use Rattle.rz_expr.specs.declared.value.EvalFault.{EvalFault}
use Rattle.rz_types_fields.specs.Field.{PlainBody}
use Rattle.rz_types_fields.specs.Passed.{Names}
use Rattle.rz_types_fields.specs.Sees.{Late}
use Rattle.rz_types_fields.specs.Solve.{has_key, in_64_bits, solve, solved_count, solved_value, undo_left, undo_one, undo_right}
use Rattle.rz_types_fields.specs.Spells.{RowSpells}
use Rattle.rz_types_fields.specs.Value.{see}
use Rattle.rz_unlay_pieces.specs.Ahead.{near_place}
use Rattle.rz_unlay.proofs.Asked.{is_asked}
use Rattle.rz_unlay.proofs.ReadsTests.{and_then, mapped, none_is, so_then, some_same}
use Rattle.rz_unlay.proofs.Told.{part_of_part}

-- Values with more names.

ok_is : (result : Result ℤ EvalFault) (value : ℤ) → result_ok result ≡ Some value → result ≡ Ok value
ok_is (Ok x) value is = ap (λ (n : ℤ). Ok n) (some_same x value is)
ok_is (Err fault) value is = absurd (none_is value is)

if_both : {A : Type 0} (test : Bool) (x y one other : Option A) (value : A) → (x ≡ Some value → one ≡ Some value) → (y ≡ Some value → other ≡ Some value)
    → (if test then x else y) ≡ Some value → (if test then one else other) ≡ Some value
if_both true x y one other value first second is = first is
if_both false x y one other value first second is = second is

module _ (facts : Facts) (bits : ℤ → ℤ → Option ℤ) (part whole : Environment) (is_part : IsPartOf part whole) where
  pub value_grows : (term : Term) (value : ℤ) → value_of term (see facts bits part) ≡ Ok value → value_of term (see facts bits whole) ≡ Ok value
  value_grows term value is =
      sights.value_grows (see facts bits part) (see facts bits whole) (record { names = is_part; bits = λ first width number there. there; fact = λ which. refl }) term value is

  -- the other side has its value, and what is left is solved
  side_grows : (side : Term) (undo : ℤ → Option ℤ) (less more : ℤ → Option ℤ) → ((n value : ℤ) → less n ≡ Some value → more n ≡ Some value) → (value : ℤ)
      → option_and_then (λ s. option_and_then less (option_and_then in_64_bits (undo s))) (result_ok (value_of side (see facts bits part))) ≡ Some value
      → option_and_then (λ s. option_and_then more (option_and_then in_64_bits (undo s))) (result_ok (value_of side (see facts bits whole))) ≡ Some value
  side_grows side undo less more grows value is =
      let one = and_then (λ s. option_and_then less (option_and_then in_64_bits (undo s))) (result_ok (value_of side (see facts bits part))) value is in
      let two = and_then less (option_and_then in_64_bits (undo one.0)) value one.2 in
      so_then (λ s. option_and_then more (option_and_then in_64_bits (undo s))) (result_ok (value_of side (see facts bits whole))) one.0 value
      (ap result_ok (value_grows side one.0 (ok_is (value_of side (see facts bits part)) one.0 one.1)))
      (so_then more (option_and_then in_64_bits (undo one.0)) two.0 value two.1 (grows two.0 value two.2))

  solve_grows : (key : Key) (term : Term) (number value : ℤ) → solve key (see facts bits part) term number ≡ Some value → solve key (see facts bits whole) term number ≡ Some value
  solve_grows key (Constant other) number value is = is
  solve_grows key (Named name) number value is = is
  solve_grows key (Indexed name index) number value is = is
  solve_grows key (RowsOf name) number value is = is
  solve_grows key (RowNumber name) number value is = is
  solve_grows key (BitsAt name start width) number value is = is
  solve_grows key (FactOf which) number value is = is
  solve_grows key (OfOne op operand) number value is =
      let one = and_then (solve key (see facts bits part) operand) (option_and_then in_64_bits (undo_one op number)) value is in
      so_then (solve key (see facts bits whole) operand) (option_and_then in_64_bits (undo_one op number)) one.0 value one.1 (solve_grows key operand one.0 value one.2)
  solve_grows key (OfTwo op left right) number value is =
      if_both (has_key key left) _ _ _ _ value
      (side_grows right (λ s. undo_left op s number) (solve key (see facts bits part) left) (solve key (see facts bits whole) left) (λ n v. solve_grows key left n v) value)
      (side_grows left (λ s. undo_right op s number) (solve key (see facts bits part) right) (solve key (see facts bits whole) right) (λ n v. solve_grows key right n v) value)
      is

  counted_grows : (width : ℕ) (key : Key) (term : Term) (stored : ℕ) (value : ℤ)
      → solved_count width key (see facts bits part) term stored ≡ Some value → solved_count width key (see facts bits whole) term stored ≡ Some value
  counted_grows width key term stored value is =
      let one = mapped (λ count. pos (cast_unsigned w64 count % 2 ^ width)) (solve key (see facts bits part) term (pos stored)) value is in
      ap (option_map (λ count. pos (cast_unsigned w64 count % 2 ^ width))) (solve_grows key term (pos stored) one.0 one.1) ∙ ap (λ (v : ℤ). Some v) one.2

  pub solved_grows : (width : ℕ) (key : Key) (term : Term) (stored : ℕ) (value : ℤ)
      → solved_value width key (see facts bits part) term stored ≡ Some value → solved_value width key (see facts bits whole) term stored ≡ Some value
  solved_grows width (place_of name) term stored value is = solve_grows (place_of name) term (pos stored) value is
  solved_grows width (count_of name) term stored value is = counted_grows width (count_of name) term stored value is
  solved_grows width (rows_of label) term stored value is = counted_grows width (rows_of label) term stored value is
  solved_grows width (place_in label number) term stored value is = counted_grows width (place_in label number) term stored value is
  solved_grows width (row_in array) term stored value is = counted_grows width (row_in array) term stored value is

-- What is known.

-- the known names that are asked for have values, and no others
pub record Knows (known : Names) (names : Environment) : Type 0 where
  pub covers : (key : Key) → is_asked key ≡ true → known key ≡ true → (value : ℤ) × (names.give key ≡ Some value)
  pub only : (key : Key) (value : ℤ) → is_asked key ≡ true → names.give key ≡ Some value → known key ≡ true

-- more is known, of these names alone
pub record Grows (declared : Names) (names more : Environment) : Type 0 where
  pub kept : IsPartOf names more
  pub same : (key : Key) → declared key ≡ false → more.give key ≡ names.give key

-- what was read, with more known after it: it is spelled so under each environment of which that is a part, and the marks of
-- late bits are those that were read
pub record Came (declared : Names) (names more : Environment) (at : ℕ) (late : Late) (after : ℕ) (late_after : Late) (Reads : Environment → RowSpells) : Type 0 where
  pub grows : Grows declared names more
  pub spells : (env : Environment) → IsPartOf more env → Reads env at late after late_after

-- the labels that are near stand in the resource
abbrev pub NearShort : List Bool → PlainBody → ℕ → Type 0
NearShort all body at = (key : Key) (place : ℕ) → near_place body at key ≡ Some place → place ≤ length all

-- and have their places
abbrev pub NearIn : List Bool → PlainBody → ℕ → Environment → Type 0
NearIn all body at env = (key : Key) (place : ℕ) → near_place body at key ≡ Some place → (env.give key ≡ Some (pos place)) × (place ≤ length all)

-- what was read of the first field of a body, or of its pieces: it is spelled so where the labels that are near have their places
pub record CameNear (all : List Bool) (body : PlainBody) (first : ℕ) (declared : Names) (names more : Environment) (at : ℕ) (late : Late) (after : ℕ) (late_after : Late)
    (Reads : Environment → RowSpells) : Type 0 where
  pub grows : Grows declared names more
  pub spells : (env : Environment) → IsPartOf more env → NearIn all body first env → Reads env at late after late_after

pub grows_then : (declared : Names) (a b c : Environment) → Grows declared a b → Grows declared b c → Grows declared a c
grows_then declared a b c one other = record { kept = part_of_part a b c one.kept other.kept; same = λ key none. other.same key none ∙ one.same key none }

pub grows_wide : (few many : Names) → ((key : Key) → many key ≡ false → few key ≡ false) → (names more : Environment) → Grows few names more → Grows many names more
grows_wide few many leads names more it = record { kept = it.kept; same = λ key none. it.same key (leads key none) }
