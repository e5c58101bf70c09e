-- Whether one of some bits is set.
use Rattle.std.proofs.Common.{◌≡◌, ℕ, zero, suc, ◌+◌, ◌-◌, ◌*◌, ◌^◌, ◌<◌, ◌≤◌, ◌==◌, Bool, true, false, not, List, [], ◌∷◌, length, take, drop, refl, sym, ap, ◌∙◌, arith}
use Rattle.std.specs.List.{list_any}
use Rattle.std.specs.Prelude.{min}
use Rattle.std.proofs.lemmas.Bool.Decides.{nat_tests}
use Rattle.std.proofs.lemmas.List.{drop_all, drop-take, length-drop, take-take}
use Rattle.std.proofs.lemmas.Nat.{pow_pos}
use Rattle.std.proofs.Math.Seq.{take-nil}
use Rattle.rz_bits.specs.Bits.{number_of}

abbrev pub any_set : List Bool → Bool
any_set bits = list_any (λ bit. bit) bits

positive : (power rest : ℕ) → 0 < power → not ((1 * power + rest) == 0) ≡ true
positive power rest some = grind (arith, nat_tests)

-- the number that they write isn't 0
some_set : (bits : List Bool) → not (number_of bits == 0) ≡ any_set bits
some_set [] = refl
some_set (true ∷ bits) = positive (2 ^ length bits) (number_of bits) (pow_pos (length bits))
some_set (false ∷ bits) = ap (λ (n : ℕ). not (n == 0)) (let e : 0 * 2 ^ length bits + number_of bits ≡ number_of bits = omega arith in e) ∙ some_set bits

-- no more are there
cut_width : (rest : List Bool) (width : ℕ) → take (min (length rest) width) rest ≡ take width rest
cut_width [] width = take-nil (min 0 width) ∙ sym (take-nil width)
cut_width (bit ∷ rest) zero = let e : min (suc (length rest)) 0 ≡ 0 = omega arith in ap (λ (n : ℕ). take n (bit ∷ rest)) e
cut_width (bit ∷ rest) (suc width) =
    ap (λ (n : ℕ). take n (bit ∷ rest)) (let e : min (suc (length rest)) (suc width) ≡ suc (min (length rest) width) = omega arith in e)
    ∙ ap (λ (bits : List Bool). bit ∷ bits) (cut_width rest width)

-- one of those that are there is set
pub any_there : (bits : List Bool) (place there width number : ℕ) → there ≡ min (length bits - place) width → number ≡ number_of (take there (drop place bits))
    → not (number == 0) ≡ any_set (take width (drop place bits))
any_there bits place there width number is read =
    let long = length-drop place bits in
    ap (λ (n : ℕ). not (n == 0)) read
    ∙ some_set (take there (drop place bits))
    ∙ ap (λ (n : ℕ). any_set (take n (drop place bits))) (is ∙ ap (λ (n : ℕ). min n width) (sym long))
    ∙ ap any_set (cut_width (drop place bits) width)

-- after the last bit none is
pub none_there : (bits : List Bool) (place width : ℕ) → length bits ≤ place → false ≡ any_set (take width (drop place bits))
none_there bits place width behind =
    sym (ap (λ (rest : List Bool). any_set (take width rest)) (drop_all place bits behind) ∙ ap any_set (take-nil width))

-- bits that end before a place stand among those before it
pub cut_taken : (bits : List Bool) (at first width : ℕ) → first + width ≤ at → take width (drop first bits) ≡ take width (drop first (take at bits))
cut_taken bits at first width within =
    let e : first + (at - first) ≡ at = omega (arith, within) in
    sym (
    ap (λ (n : ℕ). take width (drop first (take n bits))) (sym e)
    ∙ ap (take width) (drop-take first (at - first) bits)
    ∙ take-take width (at - first) (drop first bits) (omega (arith, within))
    )
