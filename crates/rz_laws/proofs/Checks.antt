-- The check of bytes has 16 bits.
use Rattle.std.proofs.Common.{◌≡◌, ℕ, zero, suc, ◌+◌, ◌-◌, ◌*◌, ◌^◌, ◌<◌, ◌≤◌, nat_lt, if◌then◌else◌, Bool, true, false, List, [], ◌∷◌, refl, subst, arith}
use Rattle.std.proofs.lemmas.Bool.{ltb-false, ltb-true}
use Rattle.std.proofs.lemmas.Nat.{xor_block, xor_of_16}
use Rattle.std.specs.Int.Bits.{bit_xor}
use Rattle.rz_bridge.specs.Check.{bit_more, bits_more, byte_more, crc_of}
use Rattle.rz_laws.specs.Kept.{AreBytes}

-- the 17th bit goes
top_goes : (crc : ℕ) → 32768 ≤ crc → crc < 65536 → bit_xor (2 * crc) 69665 < 65536
top_goes crc high small =
    let rest : 1 * 2 ^ 16 + (2 * crc - 65536) ≡ 2 * crc = omega arith in
    let block = xor_block 16 1 1 (2 * crc - 65536) 4129 (omega arith) (omega arith) in
    let low = xor_of_16 (2 * crc - 65536) 4129 (omega arith) (omega arith) in
    subst (λ (n : ℕ). bit_xor n 69665 < 65536) rest (omega (arith, block, low))

one_more : (crc : ℕ) → crc < 65536 → bit_more crc < 65536
unfolding bit_more
one_more crc small = by (nat_lt crc 32768) (ltb-true crc 32768) (ltb-false crc 32768)
  where
    by : (t : Bool) → (t ≡ true → crc < 32768) → (t ≡ false → 32768 ≤ crc) → (if t then 2 * crc else bit_xor (2 * crc) 69665) < 65536
    by true low high = omega (arith, low refl)
    by false low high = top_goes crc (high refl) small

more_small : (count crc : ℕ) → crc < 65536 → bits_more count crc < 65536
more_small zero crc small = small
more_small (suc count) crc small = more_small count (bit_more crc) (one_more crc small)

byte_small : (crc byte : ℕ) → crc < 65536 → byte < 256 → byte_more crc byte < 65536
unfolding byte_more
byte_small crc byte small is = more_small 8 (bit_xor crc (256 * byte)) (xor_of_16 crc (256 * byte) small (omega arith))

pub check_small : (start : ℕ) (bytes : List ℕ) → start < 65536 → AreBytes bytes → crc_of start bytes < 65536
check_small start [] small are = small
check_small start (b ∷ bs) small are = check_small (byte_more start b) bs (byte_small start b small are.0) are.1
