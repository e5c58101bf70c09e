-- A number that passes 32 bits stays past them, whatever digits follow.
use Rattle.std.proofs.Common.{◌≡◌, ℕ, ◌+◌, ◌*◌, ◌<◌, ◌≤◌, ◌^◌, List, [], ◌∷◌, None, length, get_or, refl, false, arith}
use Rattle.std.proofs.lemmas.Bool.{le-ltb, and_right}
use Rattle.std.specs.Prelude.{nat_lt, ◌&&◌}
use Rattle.rz_lex.specs.Digits.{digit_value, are_digits, spelled_from, digits_value}

larger : (base number : ℕ) → 1 < base → number ≤ base * number
larger base number h = grind arith

step_up : (base number next digit : ℕ) (ds : List ℕ) → number ≤ next → ((m : ℕ) → m ≤ spelled_from base m ds) → number ≤ spelled_from base (next + digit) ds
step_up base number next digit ds up grows = omega (arith, grows (next + digit))

grown : (base : ℕ) (ds : List ℕ) → 1 < base → (number : ℕ) → number ≤ spelled_from base number ds
grown base [] h number = omega arith
grown base (d ∷ ds) h number = step_up base number (base * number) (digit_value d) ds (larger base number h) (grown base ds h)

pub too_large : (base number : ℕ) (rest digits : List ℕ) → 1 < base → 0 < length rest → spelled_from base number rest ≡ spelled_from base 0 digits
    → 2 ^ 32 ≤ base * number + digit_value (get_or rest 0 0) → None ≡ digits_value base digits
too_large base number [] digits h some same past = absurd (omega arith)
too_large base number (d ∷ ds) digits h some same past =
    let all : 2 ^ 32 ≤ spelled_from base 0 digits = omega (arith, grown base ds h (base * number + digit_value d), same) in
    rw (le-ltb (spelled_from base 0 digits) (2 ^ 32) all, and_right (nat_lt 0 (length digits) && are_digits base digits) false refl) refl
