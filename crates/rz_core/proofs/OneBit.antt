-- A number and one bit: it has the whole of the bit, or none of it.
use Rattle.std.proofs.Common.{◌≡◌, ◌*◌, ◌/◌, ◌%◌, ◌^◌, ◌<◌, ◌≤◌, ◌⊎◌, inl, inr, ℕ, zero, suc, refl, arith}
use Rattle.std.proofs.lemmas.Bool.{agree_below_at, cases_lt}
use Rattle.std.proofs.lemmas.Bool.Decides.{nat_tests}
use Rattle.std.proofs.lemmas.Nat.{and_le_l, pow_pos}
use Rattle.std.proofs.lemmas.Nat.Bits.{and_pow, bit_at-lt}
use Rattle.std.specs.Int.{bit_at}
use Rattle.std.specs.Prelude.{◌==◌, ◌||◌, bit_and, nat_le, not}

some_of : (times bit part : ℕ) → times < 2 → 0 < bit → part ≡ times * bit → (part == bit) ≡ not (part == 0)
some_of zero bit part few some is = grind (arith, nat_tests)
some_of (suc zero) bit part few some is = grind (arith, nat_tests)
some_of (suc (suc times)) bit part few some is = absurd (omega arith)

one_of : (times bit part : ℕ) → times < 2 → 0 < bit → part ≡ times * bit → (part == bit) ≡ (times == 1)
one_of zero bit part few some is = grind (arith, nat_tests)
one_of (suc zero) bit part few some is = grind (arith, nat_tests)
one_of (suc (suc times)) bit part few some is = absurd (omega arith)

-- it has the whole of a bit exactly where it has some of it
pub has_some : (number place : ℕ) → (bit_and number (2 ^ place) == 2 ^ place) ≡ not (bit_and number (2 ^ place) == 0)
has_some number place =
    some_of (bit_at number place) (2 ^ place) (bit_and number (2 ^ place)) (bit_at-lt number place) (pow_pos place) (and_pow number place)

-- and exactly where its digit at that place is 1
pub has_one : (number place : ℕ) → (bit_and number (2 ^ place) == 2 ^ place) ≡ (number / 2 ^ place % 2 == 1)
has_one number place =
    one_of (bit_at number place) (2 ^ place) (bit_and number (2 ^ place)) (bit_at-lt number place) (pow_pos place) (and_pow number place)

-- the bits of attributes that have no name are 80 and 01
pub has_unnamed : (attr : ℕ) → not (bit_and 126 attr == attr) ≡ (nat_le 128 attr || (attr % 2 == 1))
has_unnamed attr = by (cases_lt attr 128)
  where
    by : (attr < 128) ⊎ (128 ≤ attr) → not (bit_and 126 attr == attr) ≡ (nat_le 128 attr || (attr % 2 == 1))
    by (inl below) = agree_below_at (λ n. not (bit_and 126 n == n)) (λ n. nat_le 128 n || (n % 2 == 1)) 128 attr refl below
    by (inr above) = let named = and_le_l 126 attr in grind (arith, nat_tests)
