-- Numbers and their bits.
use Rattle.std.proofs.Common.{◌≡◌, ℕ, zero, suc, ◌+◌, ◌-◌, ◌*◌, ◌/◌, ◌%◌, ◌^◌, ◌<◌, ◌≤◌, Bool, true, false, ◌==◌, List, [], ◌∷◌, ◌++◌, length, refl, sym, ap, ◌∙◌, arith, replicate}
use Rattle.std.proofs.lemmas.Nat.{mod-pow-add, div-mul-add, mod-mul-add, shr-shr, field_of}
use Rattle.std.proofs.Math.Nat.{mod-lt, mod-one, zero-div}
use Rattle.std.proofs.Math.Pow.{mod-mod-pow}
use Rattle.rz_bits.specs.Bits.{bit, digit, number_bits, number_of}

pub length-number_bits : (w v : ℕ) → length (number_bits w v) ≡ w
unfolding number_bits
length-number_bits zero v = refl
length-number_bits (suc w) v = ap suc (length-number_bits w v)

-- the bits of a number in two parts
pub number_bits-add : (a b v : ℕ) → number_bits (a + b) v ≡ number_bits a (v / 2 ^ b) ++ number_bits b v
unfolding number_bits
number_bits-add zero b v = let e : 0 + b ≡ b = omega arith in ap (λ n. number_bits n v) e
number_bits-add (suc a) b v =
    let e : suc a + b ≡ suc (a + b) = omega arith in
    let turned : a + b ≡ b + a = omega arith in
    let first : bit v (a + b) ≡ bit (v / 2 ^ b) a = ap (λ k. ((v / 2 ^ k) % 2) == 1) turned ∙ ap (λ n. (n % 2) == 1) (sym (shr-shr v b a)) in
    ap (λ n. number_bits n v) e
    ∙ ap (λ x. x ∷ number_bits (a + b) v) first
    ∙ ap (λ xs. bit (v / 2 ^ b) a ∷ xs) (number_bits-add a b v)

-- a digit is one of the number modulo a higher power
bit_low : (v b k : ℕ) → k < b → bit (v % 2 ^ b) k ≡ bit v k
bit_low v b k less =
    let whole : b ≡ (b - k) + k = omega arith in
    let odd : b - k ≡ (b - k - 1) + 1 = omega arith in
    ap (λ n. ((v % 2 ^ n / 2 ^ k) % 2) == 1) whole
    ∙ ap (λ n. (n % 2) == 1) (field_of v (b - k) k)
    ∙ ap (λ j. ((v / 2 ^ k % 2 ^ j) % 2) == 1) odd
    ∙ ap (λ n. n == 1) (mod-mod-pow (v / 2 ^ k) (b - k - 1) 1)

pub number_bits-low : (w b v : ℕ) → w ≤ b → number_bits w (v % 2 ^ b) ≡ number_bits w v
unfolding number_bits
number_bits-low zero b v le = refl
number_bits-low (suc w) b v le =
    ap (λ x. x ∷ number_bits w (v % 2 ^ b)) (bit_low v b w (omega arith))
    ∙ ap (λ xs. bit v w ∷ xs) (number_bits-low w b v (omega arith))

pub number_bits-zero : (w : ℕ) → number_bits w 0 ≡ replicate w false
unfolding number_bits
number_bits-zero zero = refl
number_bits-zero (suc w) =
    ap (λ n. ((n % 2) == 1) ∷ number_bits w 0) (zero-div (2 ^ w))
    ∙ ap (λ xs. false ∷ xs) (number_bits-zero w)

-- Reading back.

digit-eq : (n : ℕ) → n < 2 → digit (n == 1) ≡ n
digit-eq zero h = refl
digit-eq (suc zero) h = refl
digit-eq (suc (suc n)) h = absurd (omega arith)

pub number_of-number_bits : (w v : ℕ) → number_of (number_bits w v) ≡ v % 2 ^ w
unfolding number_bits
number_of-number_bits zero v = sym (mod-one v)
number_of-number_bits (suc w) v =
    let top : digit (bit v w) ≡ (v / 2 ^ w) % 2 = digit-eq ((v / 2 ^ w) % 2) (mod-lt (v / 2 ^ w) (omega arith)) in
    let e : 1 + w ≡ suc w = omega arith in
    ap (λ n. digit (bit v w) * 2 ^ n + number_of (number_bits w v)) (length-number_bits w v)
    ∙ ap (λ n. digit (bit v w) * 2 ^ w + n) (number_of-number_bits w v)
    ∙ ap (λ n. n * 2 ^ w + v % 2 ^ w) top
    ∙ sym (mod-pow-add v 1 w)
    ∙ ap (λ n. v % 2 ^ n) e

below_twice : (d p q r : ℕ) → d < 2 → q ≡ 2 * p → r < p → d * p + r < q
below_twice zero p q r h e l = omega arith
below_twice (suc zero) p q r h e l = omega arith
below_twice (suc (suc d)) p q r h e l = absurd (omega arith)

digit_below : (b : Bool) → digit b < 2
digit_below true = omega arith
digit_below false = omega arith

digit_again : (b : Bool) → ((digit b % 2) == 1) ≡ b
digit_again true = refl
digit_again false = refl

pub number_of_below : (bs : List Bool) → number_of bs < 2 ^ length bs
number_of_below [] = omega arith
number_of_below (b ∷ bs) = below_twice (digit b) (2 ^ length bs) (2 ^ suc (length bs)) (number_of bs) (digit_below b) (omega arith) (number_of_below bs)

pub number_bits-number_of : (bs : List Bool) → number_bits (length bs) (number_of bs) ≡ bs
unfolding number_bits
number_bits-number_of [] = refl
number_bits-number_of (b ∷ bs) =
    let n : ℕ = digit b * 2 ^ length bs + number_of bs in
    let low : n % 2 ^ length bs ≡ number_of bs = mod-mul-add (digit b) (2 ^ length bs) (number_of bs) (number_of_below bs) in
    ap (λ m. ((m % 2) == 1) ∷ number_bits (length bs) n) (div-mul-add (digit b) (2 ^ length bs) (number_of bs) (number_of_below bs))
    ∙ ap (λ x. x ∷ number_bits (length bs) n) (digit_again b)
    ∙ ap (λ xs. b ∷ xs) (sym (number_bits-low (length bs) (length bs) n (omega arith)) ∙ ap (number_bits (length bs)) low ∙ number_bits-number_of bs)
