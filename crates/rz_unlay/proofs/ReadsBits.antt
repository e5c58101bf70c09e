-- Numbers and bytes where their bits stand.
use Rattle.std.proofs.Common.{◌≡◌, ◌≢◌, ℕ, zero, suc, ◌+◌, ◌-◌, ◌*◌, ◌/◌, ◌%◌, ◌^◌, ◌<◌, ◌≤◌, ◌==◌, Bool, true, false, List, [], ◌∷◌, ◌++◌, length, map, take, drop, Some, None, refl, sym, ap, ◌∙◌, arith}
use Rattle.std.specs.Prelude.{if◌then◌else◌, nat_le, option_map, replicate, slice_index}
use Rattle.std.specs.List.{AllByRecursion}
use Rattle.std.proofs.lemmas.Bool.Decides.{nat_tests}
use Rattle.std.proofs.lemmas.List.{append_assoc, drop-take, length-append, length-replicate, length-take, take_at, drop_at, take-take}
use Rattle.std.proofs.lemmas.Nat.{pow-add}
use Rattle.rz_bits.specs.Bits.{bits_of, bytes_of, digit, front_bytes, number_bits, number_of}
use Rattle.rz_bits.specs.BitBuf.{zeros}
use Rattle.rz_bits.specs.View.{bits_at, bytes_at, number_at}
use Rattle.rz_unlay_texts.specs.Plain.{up_to_zero}

-- Lengths.

pub length_number : (width number : ℕ) → length (number_bits width number) ≡ width
unfolding number_bits
length_number zero number = refl
length_number (suc width) number = ap suc (length_number width number)

pub length_bits : (bytes : List ℕ) → length (bits_of bytes) ≡ 8 * length bytes
length_bits [] = refl
length_bits (byte ∷ bytes) =
    length-append (number_bits 8 byte) (bits_of bytes)
    ∙ (let one = length_number 8 byte in let more = length_bits bytes in omega (arith, one, more))

pub length_zeros : (count : ℕ) → length (zeros count) ≡ count
length_zeros count = length-replicate count false

-- Zero bits.

pub number_zeros : (count : ℕ) → number_of (zeros count) ≡ 0
number_zeros zero = refl
number_zeros (suc count) = let it = number_zeros count in omega (arith, it)

-- At a place.

pub bits_there : (all : List Bool) (at count : ℕ) → at + count ≤ length all → bits_at all at count ≡ Some (take count (drop at all))
bits_there all at count within =
    let test : nat_le (at + count) (length all) ≡ true = grind (arith, nat_tests, within) in
    ap (λ (b : Bool). if b then Some (take count (drop at all)) else None) test

-- what stands there has its front there
pub front_there : (bits front back : List Bool) → take (length (front ++ back)) bits ≡ front ++ back → take (length front) bits ≡ front
front_there bits front back there =
    let long = length-append front back in
    let less : length front ≤ length (front ++ back) = omega (arith, long) in
    sym (take-take (length front) (length (front ++ back)) bits less) ∙ ap (take (length front)) there ∙ take_at front back (length front) refl

pub number_found : (all : List Bool) (at width : ℕ) (bits : List Bool) → length bits ≡ width → at + length bits ≤ length all → take (length bits) (drop at all) ≡ bits
    → number_at all at width ≡ Some (number_of bits)
number_found all at width bits long within there =
    ap (λ (w : ℕ). number_at all at w) (sym long)
    ∙ ap (option_map number_of) (bits_there all at (length bits) within)
    ∙ ap (λ (bs : List Bool). Some (number_of bs)) there

pub zeros_found : (all : List Bool) (at count : ℕ) (bits : List Bool) → bits ≡ zeros count → at + length bits ≤ length all → take (length bits) (drop at all) ≡ bits
    → number_at all at count ≡ Some 0
zeros_found all at count bits is within there =
    number_found all at count bits (ap length is ∙ length_zeros count) within there ∙ ap (λ (n : ℕ). Some n) (ap number_of is ∙ number_zeros count)

-- Numbers one after the other.

pub number_append : (front back : List Bool) → number_of (front ++ back) ≡ number_of front * 2 ^ length back + number_of back
number_append [] back = omega (arith)
number_append (b ∷ front) back =
    let long : 2 ^ length (front ++ back) ≡ 2 ^ length front * 2 ^ length back = ap (λ (n : ℕ). 2 ^ n) (length-append front back) ∙ pow-add 2 (length front) (length back) in
    ap (λ (n : ℕ). digit b * n + number_of (front ++ back)) long
    ∙ ap (λ (n : ℕ). digit b * (2 ^ length front * 2 ^ length back) + n) (number_append front back)
    ∙ parts (digit b) (2 ^ length front) (2 ^ length back) (number_of front) (number_of back)
  where
    parts : (d f l n m : ℕ) → d * (f * l) + (n * l + m) ≡ (d * f + n) * l + m
    parts d f l n m = omega (arith)

-- Bytes.

abbrev pub AreBytes : List ℕ → Type 0
AreBytes bytes = AllByRecursion (λ byte. byte < 256) bytes

pub all_append : {A : Type 0} (P : A → Type 0) (front back : List A) → AllByRecursion P front → AllByRecursion P back → AllByRecursion P (front ++ back)
all_append P [] back one other = other
all_append P (x ∷ front) back one other = (one.0, all_append P front back one.1 other)

pub zeros_are : (count : ℕ) → AreBytes (replicate count 0)
zeros_are zero = tt
zeros_are (suc count) = (omega (arith), zeros_are count)

pub take_are : (count : ℕ) (bytes : List ℕ) → AreBytes bytes → AreBytes (take count bytes)
take_are zero bytes are = tt
take_are (suc count) [] are = tt
take_are (suc count) (byte ∷ bytes) are = (are.0, take_are count bytes are.1)

pub each_small : (bytes : List ℕ) → AreBytes bytes → (k : ℕ) → slice_index bytes k < 256
each_small [] are zero = omega (arith)
each_small [] are (suc k) = omega (arith)
each_small (byte ∷ bytes) are zero = are.0
each_small (byte ∷ bytes) are (suc k) = each_small bytes are.1 k

up_to_end : (bytes others : List ℕ) → AllByRecursion (λ byte. byte ≢ 0) bytes → up_to_zero (bytes ++ 0 ∷ others) ≡ Some bytes
up_to_end [] others none = refl
up_to_end (byte ∷ bytes) others none =
    let test : (byte == 0) ≡ false = not_same byte none.0 in
    ap (λ (b : Bool). if b then Some [] else option_map (λ front. byte ∷ front) (up_to_zero (bytes ++ 0 ∷ others))) test
    ∙ ap (option_map (λ front. byte ∷ front)) (up_to_end bytes others none.1)
  where
    not_same : (byte : ℕ) → byte ≢ 0 → (byte == 0) ≡ false
    not_same zero differ = absurd (differ refl)
    not_same (suc byte) differ = grind (arith, nat_tests)

module _ (back : (width number : ℕ) → number < 2 ^ width → number_of (number_bits width number) ≡ number) where
  one_byte : (byte : ℕ) (bits more : List Bool) (count : ℕ) → byte < 256 → take (8 + count) bits ≡ number_bits 8 byte ++ more → number_of (take 8 bits) ≡ byte
  one_byte byte bits more count small there =
      ap number_of (sym (take-take 8 (8 + count) bits (omega (arith))) ∙ ap (take 8) there ∙ take_at (number_bits 8 byte) more 8 (length_number 8 byte))
      ∙ back 8 byte small

  -- bytes whose bits stand in front are the first of all bytes
  pub front_is : (bytes : List ℕ) (bits : List Bool) (count : ℕ) → AreBytes bytes → take (8 * length bytes) bits ≡ bits_of bytes → length bytes ≤ count
      → (others : List ℕ) × (front_bytes count bits ≡ bytes ++ others)
  front_is [] bits count are there enough = (front_bytes count bits, refl)
  front_is (byte ∷ bytes) bits zero are there enough = absurd (omega (arith, enough))
  front_is (byte ∷ bytes) bits (suc count) are there enough =
      let eight : 8 * length (byte ∷ bytes) ≡ 8 + 8 * length bytes = omega (arith) in
      let whole : take (8 + 8 * length bytes) bits ≡ number_bits 8 byte ++ bits_of bytes = sym (ap (λ (n : ℕ). take n bits) eight) ∙ there in
      let rest : take (8 * length bytes) (drop 8 bits) ≡ bits_of bytes =
      sym (drop-take 8 (8 * length bytes) bits) ∙ ap (drop 8) whole ∙ drop_at (number_bits 8 byte) (bits_of bytes) 8 (length_number 8 byte) in
      let it = front_is bytes (drop 8 bits) count are.1 rest (omega (arith, enough)) in
      (it.0, λ i. one_byte byte bits (bits_of bytes) (8 * length bytes) are.0 whole i ∷ it.1 i)

  -- bytes up to the first zero byte
  zero_in_front : (bytes : List ℕ) (bits : List Bool) → AreBytes bytes → AllByRecursion (λ byte. byte ≢ 0) bytes → take (8 * length (bytes ++ 0 ∷ [])) bits ≡ bits_of (bytes ++ 0 ∷ [])
      → up_to_zero (bytes_of bits) ≡ Some bytes
  zero_in_front bytes bits are none front =
      let a = length_bits (bytes ++ 0 ∷ []) in
      let b : length (take (8 * length (bytes ++ 0 ∷ [])) bits) ≡ length (bits_of (bytes ++ 0 ∷ [])) = ap length front in
      let c = length-take (8 * length (bytes ++ 0 ∷ [])) bits in
      let it = front_is (bytes ++ 0 ∷ []) bits (length bits / 8) (all_append (λ byte. byte < 256) bytes (0 ∷ []) are (omega (arith), tt)) front (omega (arith, a, b, c)) in
      ap up_to_zero (it.1 ∙ append_assoc bytes (0 ∷ []) it.0) ∙ up_to_end bytes it.0 none

  -- from a place on
  pub zero_there : (all : List Bool) (at : ℕ) (bytes : List ℕ) → AreBytes bytes → AllByRecursion (λ byte. byte ≢ 0) bytes
      → at + 8 * (length bytes + 1) ≤ length all → take (8 * (length bytes + 1)) (drop at all) ≡ bits_of (bytes ++ 0 ∷ [])
      → (more : List ℕ) × (bytes_at all at ((length all - at) / 8) ≡ Some more) × (up_to_zero more ≡ Some bytes)
  zero_there all at bytes are none within there = (
    bytes_of (take (8 * ((length all - at) / 8)) (drop at all)),
    ap (option_map bytes_of) (bits_there all at (8 * ((length all - at) / 8)) (omega (arith, within))),
    zero_in_front bytes (take (8 * ((length all - at) / 8)) (drop at all)) are none
        (ap (λ (n : ℕ). take (8 * n) (take (8 * ((length all - at) / 8)) (drop at all))) (length-append bytes (0 ∷ []))
        ∙ take-take (8 * (length bytes + 1)) (8 * ((length all - at) / 8)) (drop at all) (omega (arith, within)) ∙ there),
  )

-- the bits of a byte are those of its last eight digits
module _ (read : (width number : ℕ) → number_of (number_bits width number) ≡ number % 2 ^ width) (written : (bits : List Bool) → number_bits (length bits) (number_of bits) ≡ bits) where
  byte_bits : (byte : ℕ) → number_bits 8 byte ≡ number_bits 8 (byte % 256)
  byte_bits byte =
      sym (written (number_bits 8 byte))
      ∙ (λ i. number_bits (length_number 8 byte i) (number_of (number_bits 8 byte)))
      ∙ ap (number_bits 8) (read 8 byte)

  pub reduced_bits : (bytes : List ℕ) → bits_of bytes ≡ bits_of (map (λ byte. byte % 256) bytes)
  reduced_bits [] = refl
  reduced_bits (byte ∷ bytes) = λ i. byte_bits byte i ++ reduced_bits bytes i

pub reduced_are : (bytes : List ℕ) → AreBytes (map (λ byte. byte % 256) bytes)
reduced_are [] = tt
reduced_are (byte ∷ bytes) = (omega (arith), reduced_are bytes)

-- where they are bytes, these are the same
pub reduced_same : (bytes : List ℕ) → ((k : ℕ) → slice_index bytes k < 256) → map (λ byte. byte % 256) bytes ≡ bytes
reduced_same [] small = refl
reduced_same (byte ∷ bytes) small =
    let first : byte % 256 ≡ byte = (let less : byte < 256 = small 0 in omega (arith, less)) in
    λ i. first i ∷ reduced_same bytes (λ k. small (suc k)) i
