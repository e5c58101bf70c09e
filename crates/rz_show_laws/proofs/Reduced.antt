-- Numbers that are reduced to 32 bits: what they are, how they are stored, and their range.
use Rattle.std.proofs.Common.{◌≡◌, ℕ, zero, suc, ◌+◌, ◌-◌, ◌*◌, ◌%◌, ◌^◌, ◌<◌, ◌≤◌, ℤ, pos, negsuc, ◌+ℤ◌, neg_ℤ, ◌≤ℤ◌, ◌<ℤ◌, nat_lt, w32, refl, sym, ap, subst, ◌∙◌, arith, mod-eq_of_lt, suc-mul}
use Rattle.std.specs.Int.{int_wrap, cast_signed, cast_unsigned}
use Rattle.std.proofs.lemmas.Bool.Decides.{nat_tests}
use Rattle.std.proofs.lemmas.Int.{int_wrap_fits, int_wrap-add_right, ints, of_z-to_z}
use Rattle.std.proofs.lemmas.Nat.{mod-mul-add, pow_pos, pow-add}
use Rattle.std.proofs.Math.Nat.{pow-suc}
use Rattle.std.proofs.Math.Pow.{pow_mono}
use Rattle.rz_core.proofs.Tests.{by_test}
use Rattle.rz_expr.specs.Value.{reduced}
use Rattle.rz_types.specs.Stored.{stored_number}

pub half : (width : ℕ) → 0 < width → 2 ^ width ≡ 2 * 2 ^ (width - 1)
half width some =
    let one : width ≡ suc (width - 1) = omega arith in
    ap (λ (k : ℕ). 2 ^ k) one ∙ pow-suc 2 (width - 1) ∙ omega arith

pub below_most : (width n : ℕ) → width ≤ 32 → n < 2 ^ width → n < 2 ^ 32
below_most width n most less = omega (arith, less, pow_mono {i = width} {j = 32} most)

-- What they are.

pub wrap_small : (n : ℕ) → n < 2 ^ 31 → reduced (pos n) ≡ pos n
wrap_small n small = int_wrap_fits w32 (pos n) (omega arith)

shift : (k n : ℕ) → k + n + 1 ≡ 2 ^ 32 → pos n ≡ negsuc k +ℤ pos (2 ^ 32)
shift k n e = omega (arith, ints, e)

none : int_wrap w32 (pos (2 ^ 32)) ≡ pos 0
unfolding int_wrap
none = refl

nothing_added : (k : ℕ) → negsuc k +ℤ pos 0 ≡ negsuc k
nothing_added k = omega (arith, ints)

shift_none : (k : ℕ) → negsuc k +ℤ int_wrap w32 (pos (2 ^ 32)) ≡ negsuc k
shift_none k = ap (λ (z : ℤ). negsuc k +ℤ z) none ∙ nothing_added k

pub wrap_large : (n : ℕ) → 2 ^ 31 ≤ n → n < 2 ^ 32 → reduced (pos n) ≡ negsuc (2 ^ 32 - n - 1)
wrap_large n large less =
    ap (int_wrap w32) (shift (2 ^ 32 - n - 1) n (omega arith))
    ∙ sym (int_wrap-add_right w32 (negsuc (2 ^ 32 - n - 1)) (pos (2 ^ 32)))
    ∙ ap (int_wrap w32) (shift_none (2 ^ 32 - n - 1))
    ∙ int_wrap_fits w32 (negsuc (2 ^ 32 - n - 1)) (omega arith)

pub minus_wraps : (k : ℕ) → k < 2 ^ 31 → reduced (neg_ℤ (reduced (pos (suc k)))) ≡ negsuc k
unfolding int_wrap
minus_wraps k below = by_test (int_wrap w32 (neg_ℤ (int_wrap w32 (pos (suc k)))) ≡ negsuc k) (nat_lt (suc k) (2 ^ 31))
    (λ h. let small : suc k < 2 ^ 31 = grind (arith, nat_tests) in
    ap (λ (z : ℤ). int_wrap w32 (neg_ℤ z)) (wrap_small (suc k) small) ∙ int_wrap_fits w32 (negsuc k) (omega arith))
    (λ h. let large : 2 ^ 31 ≤ suc k = grind (arith, nat_tests) in
    let same : 2147483647 ≡ k = omega arith in
    subst (λ (x : ℕ). int_wrap w32 (neg_ℤ (int_wrap w32 (pos (suc x)))) ≡ negsuc x) same refl)

-- How they are stored.

cast_back : (n : ℕ) → n < 2 ^ 32 → cast_unsigned w32 (reduced (pos n)) ≡ n
unfolding int_wrap
cast_back n less = ap (λ (k : ℕ). cast_unsigned w32 (cast_signed w32 k)) (mod-eq_of_lt less) ∙ of_z-to_z w32 n less

pub stored_constant : (width n : ℕ) → width ≤ 32 → n < 2 ^ width → n ≡ stored_number width (reduced (pos n))
stored_constant width n most less = sym (ap (λ (k : ℕ). k % 2 ^ width) (cast_back n (below_most width n most less)) ∙ mod-eq_of_lt less)

low_bits : (times m k n : ℕ) → 0 < times → suc k + n ≡ m → (times * m - suc k) % m ≡ n
low_bits zero m k n some sum = absurd (omega (arith, some))
low_bits (suc q) m k n some sum =
    let same : suc q * m - suc k ≡ q * m + n = omega (arith, sum, suc-mul q m) in
    let less : n < m = omega (arith, sum) in
    ap (λ (x : ℕ). x % m) same ∙ mod-mul-add q m n less

pub stored_negative : (width k n : ℕ) → width ≤ 32 → suc k + n ≡ 2 ^ width → n ≡ stored_number width (negsuc k)
stored_negative width k n most sum =
    let parts : 32 ≡ (32 - width) + width = omega (arith, most) in
    let whole : 2 ^ 32 ≡ 2 ^ (32 - width) * 2 ^ width = ap (λ (x : ℕ). 2 ^ x) parts ∙ pow-add 2 (32 - width) width in
    sym (ap (λ (x : ℕ). (x - suc k) % 2 ^ width) whole ∙ low_bits (2 ^ (32 - width)) (2 ^ width) k n (pow_pos (32 - width)) sum)

-- Their range.

neg_low : (a n : ℕ) → neg_ℤ (pos a) ≤ℤ pos n
neg_low zero n = omega (arith, ints)
neg_low (suc a) n = omega (arith, ints)

neg_least : (a k : ℕ) → k < a → neg_ℤ (pos a) ≤ℤ negsuc k
neg_least zero k less = absurd (omega (arith, less))
neg_least (suc a) k less = omega (arith, ints, less)

-- a value of so many bits, with a sign or without
pub record InBits (width : ℕ) (value : ℤ) : Type 0 where
  pub least : neg_ℤ (pos (2 ^ (width - 1))) ≤ℤ value
  pub most : value <ℤ pos (2 ^ width)

pub in_bits_small : (width n : ℕ) → n < 2 ^ width → InBits width (pos n)
in_bits_small width n less = record { least = neg_low (2 ^ (width - 1)) n; most = omega (arith, ints, less) }

pub in_bits_negative : (width k : ℕ) → k < 2 ^ (width - 1) → InBits width (negsuc k)
in_bits_negative width k less = record { least = neg_least (2 ^ (width - 1)) k less; most = omega (arith, ints) }

pub in_bits_constant : (width n : ℕ) → width ≤ 32 → n < 2 ^ width → InBits width (reduced (pos n))
in_bits_constant width n most less = by_test (InBits width (reduced (pos n))) (nat_lt n (2 ^ 31))
    (λ h. let small : n < 2 ^ 31 = grind (arith, nat_tests) in subst (InBits width) (sym (wrap_small n small)) (in_bits_small width n less))
    (λ h. let large : 2 ^ 31 ≤ n = grind (arith, nat_tests) in
    subst (InBits width) (sym (wrap_large n large (below_most width n most less)))
    (subst (λ (x : ℕ). InBits x (negsuc (2 ^ 32 - n - 1))) (widest large) (in_bits_negative 32 (2 ^ 32 - n - 1) (omega (arith, large)))))
  where
    widest : 2 ^ 31 ≤ n → 32 ≡ width
    widest large = by_test (32 ≡ width) (nat_lt width 32)
        (λ h. let narrow : width ≤ 31 = grind (arith, nat_tests) in absurd (omega (arith, less, large, pow_mono {i = width} {j = 31} narrow)))
        (λ h. let wide : 32 ≤ width = grind (arith, nat_tests) in omega (arith, wide, most))

-- a value in range stays so
pub in_bits_reduced : (width : ℕ) (value : ℤ) → 0 < width → width ≤ 32 → InBits width value → InBits width (reduced value)
in_bits_reduced width (pos n) some most range = in_bits_constant width n most (omega (arith, ints, range.most))
in_bits_reduced width (negsuc k) some most range =
    let less : k < 2 ^ (width - 1) = least_neg (2 ^ (width - 1)) k range.least in
    let small : k < 2 ^ 31 = omega (arith, less, pow_mono {i = width - 1} {j = 31} (omega (arith, most))) in
    subst (InBits width) (sym (int_wrap_fits w32 (negsuc k) (omega (arith, small)))) range
  where
    least_neg : (a k : ℕ) → neg_ℤ (pos a) ≤ℤ negsuc k → k < a
    least_neg zero k is = absurd (omega (arith, ints, is))
    least_neg (suc a) k is = omega (arith, ints, is)

pub small_stays : (value : ℤ) → negsuc 32767 ≤ℤ value → value ≤ℤ pos 65535 → reduced value ≡ value
small_stays (pos n) low high = let small : n ≤ 65535 = omega (arith, ints, high) in wrap_small n (omega (arith, small))
small_stays (negsuc k) low high = let small : k ≤ 32767 = omega (arith, ints, low) in int_wrap_fits w32 (negsuc k) (omega (arith, small))
