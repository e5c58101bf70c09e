-- The bytes of bits are bytes.
use Rattle.std.proofs.Common.{◌≡◌, ℕ, zero, suc, ◌/◌, ◌%◌, ◌^◌, ◌<◌, ◌≤◌, Bool, List, [], length, take, drop, sym, ap, subst, ◌∙◌, arith}
use Rattle.std.specs.Prelude.{slice_index}
use Rattle.std.proofs.Math.Nat.{mod-lt}
use Rattle.std.proofs.Math.Pow.{pow_mono}
use Rattle.std.proofs.lemmas.List.{length-take}
use Rattle.std.proofs.lemmas.Nat.{pow_pos}
use Rattle.rz_bits.specs.Bits.{bytes_of, front_bytes, number_bits, number_of}

module _ (read : (width number : ℕ) → number_of (number_bits width number) ≡ number % 2 ^ width) (written : (bits : List Bool) → number_bits (length bits) (number_of bits) ≡ bits) where
  below : (bits : List Bool) → number_of bits < 2 ^ length bits
  below bits =
      subst (λ n. n < 2 ^ length bits) (sym (ap number_of (sym (written bits)) ∙ read (length bits) (number_of bits))) (mod-lt (number_of bits) (pow_pos (length bits)))

  byte_below : (bits : List Bool) → number_of (take 8 bits) < 256
  byte_below bits =
      let least : length (take 8 bits) ≤ 8 = (let long = length-take 8 bits in omega (arith, long)) in
      let most : 2 ^ length (take 8 bits) ≤ 256 = pow_mono least in
      let low = below (take 8 bits) in
      omega (arith, most, low)

  fronts_below : (count : ℕ) (bits : List Bool) (k : ℕ) → slice_index (front_bytes count bits) k < 256
  fronts_below zero bits k = none k
    where
      none : (k : ℕ) → slice_index [] k < 256
      none zero = omega (arith)
      none (suc k) = omega (arith)
  fronts_below (suc count) bits zero = byte_below bits
  fronts_below (suc count) bits (suc k) = fronts_below count (drop 8 bits) k

  pub small_bytes : (bits : List Bool) (k : ℕ) → slice_index (bytes_of bits) k < 256
  small_bytes bits k = fronts_below (length bits / 8) bits k
