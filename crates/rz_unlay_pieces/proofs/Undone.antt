-- Operators that are undone within 64 bits.
use Rattle.std.proofs.Common.{◌≡◌, ◌^◌, ◌<◌, Bool, true, false, ℤ, pos, negsuc, Option, Some, None, refl, sym, ap, ◌∙◌, arith, w64}
use Rattle.std.specs.Prelude.{if◌then◌else◌, nat_lt, int_div, int_rem, option_and_then}
use Rattle.std.specs.Int.{CanDivide, IsNonZero}
use Rattle.std.specs.Int.RustNames.{FitsSigned}
use Rattle.std.specs.Option.{SomeIff}
use Rattle.std.proofs.lemmas.Bool.Decides.{nat_tests}
use Rattle.std.specs.Result.{result_ok}
use Rattle.rz_expr.specs.Environment.{Environment, Key, Sight}
use Rattle.rz_expr.specs.Term.{OfTwo, Term}
use Rattle.rz_expr.specs.Value.{is_zero, value_of}
use Rattle.rz_expr.specs.declared.expr.BinaryOp.{BinaryOp}
use Rattle.rz_types_fields.specs.Solve.{by_power, exact, has_key, in_64_bits, product, solve, undo_left, undo_right}
use Rattle.rz_unlay_pieces.specs.Pieces.{solve_all}
use Rattle.rz_unlay_pieces.specs.Power.{power_of}

fits_in : (z : ℤ) → FitsSigned w64 z → Some z ≡ in_64_bits z
fits_in (pos n) fits = let small : n < 9223372036854775808 = fits.sfits in grind (arith, nat_tests)
fits_in (negsuc n) fits = let small : n < 9223372036854775808 = fits.sfits in grind (arith, nat_tests)

not_in : (z : ℤ) → ¬ (FitsSigned w64 z) → None ≡ in_64_bits z
not_in (pos n) over = let large : 9223372036854775807 < n = by (nat_lt n 9223372036854775808) refl in grind (arith, nat_tests)
  where
    by : (test : Bool) → nat_lt n 9223372036854775808 ≡ test → 9223372036854775807 < n
    by true is = let small : n < 9223372036854775808 = grind (arith, nat_tests) in absurd (over (record { sfits = small }))
    by false is = grind (arith, nat_tests)
not_in (negsuc n) over = let large : 9223372036854775807 < n = by (nat_lt n 9223372036854775808) refl in grind (arith, nat_tests)
  where
    by : (test : Bool) → nat_lt n 9223372036854775808 ≡ test → 9223372036854775807 < n
    by true is = let small : n < 9223372036854775808 = grind (arith, nat_tests) in absurd (over (record { sfits = small }))
    by false is = grind (arith, nat_tests)

pub checked_is : (result : Option ℤ) (z : ℤ) → SomeIff result (FitsSigned w64 z) z → result ≡ in_64_bits z
checked_is None z over = not_in z over
checked_is (Some x) z is = ap Some is.1 ∙ fits_in z is.0

-- a quotient that leaves nothing
pub divided_is : (result : Option ℤ) (number divisor : ℤ) → IsNonZero w64 divisor → SomeIff result (CanDivide w64 number divisor) (int_div number divisor) → result ≡ in_64_bits (int_div number divisor)
divided_is None number divisor some over = not_in (int_div number divisor) (λ fits. over (some, fits))
divided_is (Some x) number divisor some is = ap Some is.1 ∙ fits_in (int_div number divisor) is.0.1

pub exact_is : (number divisor : ℤ) → is_zero divisor ≡ false → is_zero (int_rem number divisor) ≡ true → Some (int_div number divisor) ≡ exact divisor number
exact_is number divisor some none =
    ap (λ (b : Bool). if b then Some (int_div number divisor) else None) (sym none)
    ∙ ap (λ (b : Bool). if b then None else if is_zero (int_rem number divisor) then Some (int_div number divisor) else None) (sym some)

-- by powers of two

pub power_exact : (count number : ℤ) → option_and_then (λ factor. option_and_then in_64_bits (exact factor number)) (power_of count) ≡ option_and_then in_64_bits (by_power exact count number)
power_exact (pos count) number = by (nat_lt count 32)
  where
    by : (test : Bool) → option_and_then (λ factor. option_and_then in_64_bits (exact factor number)) (if test then Some (pos (2 ^ count)) else None)
        ≡ option_and_then in_64_bits (if test then exact (pos (2 ^ count)) number else None)
    by true = refl
    by false = refl
power_exact (negsuc n) number = refl

pub power_product : (count number : ℤ) → option_and_then (λ factor. option_and_then in_64_bits (product factor number)) (power_of count) ≡ option_and_then in_64_bits (by_power product count number)
power_product (pos count) number = by (nat_lt count 32)
  where
    by : (test : Bool) → option_and_then (λ factor. option_and_then in_64_bits (product factor number)) (if test then Some (pos (2 ^ count)) else None)
        ≡ option_and_then in_64_bits (if test then product (pos (2 ^ count)) number else None)
    by true = refl
    by false = refl
power_product (negsuc n) number = refl

-- Solving.

module _ (key : Key) (sight : Sight) (op : BinaryOp) (left right : Term) (number : ℤ) where
  abbrev by_left : Option ℤ → Option ℤ
  by_left side = option_and_then (λ known. option_and_then (solve key sight left) (option_and_then in_64_bits (undo_left op known number))) side

  abbrev by_right : Option ℤ → Option ℤ
  by_right side = option_and_then (λ known. option_and_then (solve key sight right) (option_and_then in_64_bits (undo_right op known number))) side

  abbrev by_test : Bool → Option ℤ
  by_test test = if test then by_left (result_ok (value_of right sight)) else by_right (result_ok (value_of left sight))

  pub left_none : has_key key left ≡ true → None ≡ result_ok (value_of right sight) → None ≡ solve key sight (OfTwo op left right) number
  left_none has none = ap by_left none ∙ ap by_test (sym has)

  pub left_not : (side : ℤ) → has_key key left ≡ true → Some side ≡ result_ok (value_of right sight) → None ≡ option_and_then in_64_bits (undo_left op side number)
      → None ≡ solve key sight (OfTwo op left right) number
  left_not side has known none = ap (option_and_then (solve key sight left)) none ∙ ap by_left known ∙ ap by_test (sym has)

  pub left_solved : (side inner : ℤ) (result : Option ℤ) → has_key key left ≡ true → Some side ≡ result_ok (value_of right sight)
      → Some inner ≡ option_and_then in_64_bits (undo_left op side number) → result ≡ solve key sight left inner → result ≡ solve key sight (OfTwo op left right) number
  left_solved side inner result has known undone is = is ∙ ap (option_and_then (solve key sight left)) undone ∙ ap by_left known ∙ ap by_test (sym has)

  pub right_none : has_key key left ≡ false → None ≡ result_ok (value_of left sight) → None ≡ solve key sight (OfTwo op left right) number
  right_none has none = ap by_right none ∙ ap by_test (sym has)

  pub right_not : (side : ℤ) → has_key key left ≡ false → Some side ≡ result_ok (value_of left sight) → None ≡ option_and_then in_64_bits (undo_right op side number)
      → None ≡ solve key sight (OfTwo op left right) number
  right_not side has known none = ap (option_and_then (solve key sight right)) none ∙ ap by_right known ∙ ap by_test (sym has)

  pub right_solved : (side inner : ℤ) (result : Option ℤ) → has_key key left ≡ false → Some side ≡ result_ok (value_of left sight)
      → Some inner ≡ option_and_then in_64_bits (undo_right op side number) → result ≡ solve key sight right inner → result ≡ solve key sight (OfTwo op left right) number
  right_solved side inner result has known undone is = is ∙ ap (option_and_then (solve key sight right)) undone ∙ ap by_right known ∙ ap by_test (sym has)

pub both_solved : (near : Environment → Environment) (solved : Key → Environment → Option ℤ) (op : BinaryOp) (left right : Term) (names more : Environment) → Some more ≡ solve_all near solved left names
    → solve_all near solved right more ≡ solve_all near solved (OfTwo op left right) names
both_solved near solved op left right names more is = ap (option_and_then (solve_all near solved right)) is

pub not_both : (near : Environment → Environment) (solved : Key → Environment → Option ℤ) (op : BinaryOp) (left right : Term) (names : Environment) → None ≡ solve_all near solved left names
    → None ≡ solve_all near solved (OfTwo op left right) names
not_both near solved op left right names is = ap (option_and_then (solve_all near solved right)) is
