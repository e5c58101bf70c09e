-- The table of the check: one byte at a time is eight bits at a time.
use Rattle.std.proofs.Common.{◌≡◌, ℕ, zero, suc, ◌+◌, ◌*◌, ◌/◌, ◌%◌, ◌^◌, ◌<◌, ◌≤◌, ◌==◌, nat_lt, if◌then◌else◌, Bool, true, false, get_or, refl, sym, ap, ◌∙◌, arith}
use Rattle.std.proofs.lemmas.Bool.{agree_below_at, eqb-true}
use Rattle.std.proofs.lemmas.Bool.Decides.{nat_tests}
use Rattle.std.proofs.lemmas.Nat.{xor_comm, xor_shr, xor_block}
use Rattle.std.specs.Int.Bits.{bit_xor, xor_assoc, xor_zero_r}
use Rattle.rz_bridge.specs.Check.{bit_more, bits_more, byte_more}
use Rattle.rz_bridge.specs.declared.check.TheConstants.{TABLE}

-- the 17th bit comes of the high numbers alone
same_top : (a b : ℕ) → b < 2 ^ 15 → nat_lt (bit_xor a b) 32768 ≡ nat_lt a 32768
same_top a b small =
    let low : b / 2 ^ 15 ≡ 0 = omega arith in
    let high : bit_xor a b / 2 ^ 15 ≡ a / 2 ^ 15 = xor_shr a b 15 ∙ ap (bit_xor (a / 2 ^ 15)) low ∙ xor_zero_r (a / 2 ^ 15) in
    same_test (bit_xor a b) a high
  where
    same_test : (x a : ℕ) → x / 2 ^ 15 ≡ a / 2 ^ 15 → nat_lt x 32768 ≡ nat_lt a 32768
    same_test x a same = grind (arith, nat_tests)

doubled : (a b : ℕ) → 2 * bit_xor a b ≡ bit_xor (2 * a) (2 * b)
doubled a b =
    let block = xor_block 1 a b 0 0 (omega arith) (omega arith) in
    let left : a * 2 ^ 1 + 0 ≡ 2 * a = omega arith in
    let right : b * 2 ^ 1 + 0 ≡ 2 * b = omega arith in
    let same : bit_xor (a * 2 ^ 1 + 0) (b * 2 ^ 1 + 0) ≡ bit_xor (2 * a) (2 * b) = λ i. bit_xor (left i) (right i) in
    omega (arith, same, block)

by_top : (t : Bool) (a b : ℕ) → (if t then bit_xor a b else bit_xor (bit_xor a b) 69665) ≡ bit_xor (if t then a else bit_xor a 69665) b
by_top true a b = refl
by_top false a b = xor_assoc a b 69665 ∙ ap (bit_xor a) (xor_comm b 69665) ∙ sym (xor_assoc a 69665 b)

-- low bits pass on unchanged
one_bit : (a b : ℕ) → b < 2 ^ 15 → bit_more (bit_xor a b) ≡ bit_xor (bit_more a) (2 * b)
unfolding bit_more
one_bit a b small =
    ap (λ (t : Bool). if t then 2 * bit_xor a b else bit_xor (2 * bit_xor a b) 69665) (same_top a b small)
    ∙ ap (λ (n : ℕ). if nat_lt a 32768 then n else bit_xor n 69665) (doubled a b)
    ∙ by_top (nat_lt a 32768) (2 * a) (2 * b)

-- a number doubled so often
abbrev shifted : ℕ → ℕ → ℕ
shifted zero b = b
shifted (suc count) b = shifted count (2 * b)

below_shifted : (count b : ℕ) → b ≤ shifted count b
below_shifted zero b = omega arith
below_shifted (suc count) b = omega (arith, below_shifted count (2 * b))

bits_apart : (count a b : ℕ) → shifted count b < 2 ^ 16 → bits_more count (bit_xor a b) ≡ bit_xor (bits_more count a) (shifted count b)
bits_apart zero a b small = refl
bits_apart (suc count) a b small =
    ap (bits_more count) (one_bit a b (omega (arith, below_shifted count (2 * b)))) ∙ bits_apart count (bit_more a) (2 * b) small

-- each entry of the table is eight bits of its number
tested : (place : ℕ) → Bool
tested place = get_or TABLE place 0 == bits_more 8 (256 * place)

entry_is : (place : ℕ) → place < 256 → get_or TABLE place 0 ≡ bits_more 8 (256 * place)
unfolding bit_more tested
entry_is place small =
    eqb-true (get_or TABLE place 0) (bits_more 8 (256 * place)) (agree_below_at tested (λ k. true) 256 place refl small)

-- the high byte of the check meets the byte, and the low byte passes on
meets : (check byte : ℕ) → bit_xor check (256 * byte) ≡ bit_xor (256 * bit_xor (check / 256) byte) (check % 256)
meets check byte =
    let block = xor_block 8 (check / 256) byte (check % 256) 0 (omega arith) (omega arith) in
    let left : check / 256 * 2 ^ 8 + check % 256 ≡ check = omega arith in
    let right : byte * 2 ^ 8 + 0 ≡ 256 * byte = omega arith in
    let high = xor_block 8 (bit_xor (check / 256) byte) 0 0 (check % 256) (omega arith) (omega arith) in
    let whole : bit_xor (check / 256) byte * 2 ^ 8 + 0 ≡ 256 * bit_xor (check / 256) byte = omega arith in
    let low : 0 * 2 ^ 8 + check % 256 ≡ check % 256 = omega arith in
    (λ i. bit_xor (sym left i) (sym right i)) ∙ block
    ∙ (λ i. sym (xor_zero_r (bit_xor (check / 256) byte)) i * 2 ^ 8 + (xor_comm (check % 256) 0) i)
    ∙ sym high ∙ (λ i. bit_xor (whole i) (low i))

-- the step by the table
pub byte_is : (check byte : ℕ) → bit_xor (check / 256) byte < 256
    → byte_more check byte ≡ bit_xor (check * 256 % 65536) (get_or TABLE (bit_xor (check / 256) byte) 0)
unfolding byte_more
byte_is check byte small =
    let place = bit_xor (check / 256) byte in
    let low : shifted 8 (check % 256) ≡ check * 256 % 65536 = omega arith in
    ap (bits_more 8) (meets check byte) ∙ bits_apart 8 (256 * place) (check % 256) (omega arith)
    ∙ (λ i. bit_xor (sym (entry_is place small) i) (low i)) ∙ xor_comm (get_or TABLE place 0) (check * 256 % 65536)
