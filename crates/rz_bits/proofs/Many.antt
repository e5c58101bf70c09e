-- One bit, so many times.
use Rattle.std.proofs.Common.{◌≡◌, ℕ, ◌+◌, ◌-◌, ◌/◌, ◌^◌, ◌<◌, ◌≤◌, Bool, true, List, ◌++◌, length, drop, replicate, refl, sym, ap, ◌∙◌, arith}
use Rattle.std.proofs.lemmas.List.{append_assoc, drop_at, drop-replicate, length-append, replicate-append-replicate}
use Rattle.rz_bits.specs.Bits.{number_bits}
use Rattle.rz_bits.proofs.Numbers.{length-number_bits, number_bits-add}

all_ones : number_bits 32 4294967295 ≡ replicate 32 true
unfolding number_bits
all_ones = refl

-- the last digits of the greatest number
pub ones : (width : ℕ) → width ≤ 32 → number_bits width 4294967295 ≡ replicate width true
ones width most =
    let whole : 32 - width + width ≡ 32 = omega (arith, most) in
    let rest : 32 - (32 - width) ≡ width = omega (arith, most) in
    sym (drop_at (number_bits (32 - width) (4294967295 / 2 ^ width)) (number_bits width 4294967295) (32 - width) (length-number_bits (32 - width) (4294967295 / 2 ^ width)))
    ∙ ap (drop (32 - width)) (sym (number_bits-add (32 - width) width 4294967295) ∙ ap (λ (n : ℕ). number_bits n 4294967295) whole ∙ all_ones)
    ∙ drop-replicate (32 - width) 32 true
    ∙ ap (λ (n : ℕ). replicate n true) rest

-- some of them are appended, and the others are left
pub many_more : (bits own after all : List Bool) (bit : Bool) (width left : ℕ) → width ≤ left → own ≡ replicate width bit → after ≡ bits ++ own
    → bits ++ replicate left bit ≡ all → after ++ replicate (left - width) bit ≡ all
many_more bits own after all bit width left within own_is is so =
    let whole : width + (left - width) ≡ left = omega (arith, within) in
    ap (λ (bs : List Bool). bs ++ replicate (left - width) bit) (is ∙ ap (λ (bs : List Bool). bits ++ bs) own_is)
    ∙ append_assoc bits (replicate width bit) (replicate (left - width) bit)
    ∙ ap (λ (bs : List Bool). bits ++ bs) (replicate-append-replicate width (left - width) bit ∙ ap (λ (n : ℕ). replicate n bit) whole)
    ∙ so

pub many_room : (bits own after : List Bool) (width left : ℕ) → width ≤ left → length own ≡ width → after ≡ bits ++ own → length bits + left < 2147483648
    → length after + (left - width) < 2147483648
many_room bits own after width left within size is room =
    let sum : length after ≡ length bits + width = ap length is ∙ length-append bits own ∙ ap (λ (n : ℕ). length bits + n) size in
    omega (arith, sum, within, room)
