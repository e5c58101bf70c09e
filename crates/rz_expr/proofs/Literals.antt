-- Bytes as one number, modulo 2^32.
use Rattle.std.proofs.Common.{◌≡◌, ℕ, ◌+◌, ◌*◌, ◌-◌, ◌%◌, ◌^◌, ◌<◌, ◌≤◌, suc, pos, List, [], ◌∷◌, length, take, drop, get_or, w32, ap, ◌∙◌, arith}
use Rattle.std.specs.Int.{int_wrap, cast_signed}
use Rattle.std.proofs.Math.Nat.{mod-eq_of_lt}
use Rattle.std.proofs.lemmas.List.{take_all}
use Rattle.rz_expr.specs.Grammar.{bytes_number}

pub bytes_alike : (bs : List ℕ) (m n : ℕ) → m % 2 ^ 32 ≡ n % 2 ^ 32 → bytes_number m bs % 2 ^ 32 ≡ bytes_number n bs % 2 ^ 32
bytes_alike [] m n same = same
bytes_alike (b ∷ bs) m n same = bytes_alike bs (256 * m + b) (256 * n + b) (omega (arith, same))

-- what is in front counts by its low bits
pub low_front : (number : ℕ) (bs : List ℕ) → bytes_number (number % 2 ^ 32) bs % 2 ^ 32 ≡ bytes_number number bs % 2 ^ 32
low_front number bs = bytes_alike bs (number % 2 ^ 32) number (omega arith)

pub wraps_low_bits : (number : ℕ) → int_wrap w32 (pos (number % 2 ^ 32)) ≡ int_wrap w32 (pos number)
unfolding int_wrap
wraps_low_bits number = let same : number % 2 ^ 32 % 2 ^ 32 ≡ number % 2 ^ 32 = omega arith in ap (cast_signed w32) same

pub all_low : (number : ℕ) (rest : List ℕ) → length rest < 1 → number < 2 ^ 32 → bytes_number number rest % 2 ^ 32 ≡ number
all_low number [] short below = mod-eq_of_lt below
all_low number (b ∷ bs) short below = absurd (omega (arith, short))

-- the first byte goes over to the front
pub one_byte_more : (rest : List ℕ) (number : ℕ) → 1 ≤ length rest
    → bytes_number ((256 * number + get_or rest 0 0) % 2 ^ 32) (take (length rest - 1) (drop 1 rest)) % 2 ^ 32 ≡ bytes_number number rest % 2 ^ 32
one_byte_more [] number some = absurd (omega (arith, some))
one_byte_more (b ∷ bs) number some =
    let all : take (suc (length bs) - 1) bs ≡ bs = take_all (suc (length bs) - 1) bs (omega arith) in
    ap (λ (xs : List ℕ). bytes_number ((256 * number + b) % 2 ^ 32) xs % 2 ^ 32) all ∙ low_front (256 * number + b) bs
