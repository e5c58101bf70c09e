-- Bytes at a place, and their bits.
use Rattle.std.proofs.Common.{◌≡◌, ℕ, zero, suc, ◌+◌, ◌-◌, ◌*◌, ◌/◌, ◌^◌, ◌<◌, ◌≤◌, Bool, false, List, [], ◌∷◌, ◌++◌, length, take, drop, replicate, get_or, refl, sym, ap, ◌∙◌, arith}
use Rattle.std.specs.Int.{byte_at, bytes_high_first}
use Rattle.std.specs.List.{AllByRecursion}
use Rattle.std.proofs.lemmas.List.{length-drop, length-take, replicate-append-replicate}
use Rattle.std.proofs.Math.Seq.{drop-nil, take-append-add, take-nil}
use Rattle.std.proofs.Math.Nat.{mod-lt}
use Rattle.std.specs.Prelude.{min}
use Rattle.rz_bits.specs.Bits.{bits_of, bytes_of, number_bits}
use Rattle.rz_bits.specs.BitBuf.{zeros}
use Rattle.rz_bits.proofs.Bytes.{bits_of-number, bytes_of-bits_of, length-bits_of}
use Rattle.rz_bits.proofs.Numbers.{length-number_bits, number_bits-zero}
use Rattle.rz_core.specs.Numbers.{be}
use Rattle.rz_tmpl_laws.specs.Says.{IsThere}

-- Bytes at a place.

abbrev pub AreSmall : List ℕ → Type 0
AreSmall bytes = (k : ℕ) → get_or bytes k 0 < 256

abbrev pub AllSmall : List ℕ → Type 0
AllSmall bytes = AllByRecursion (λ byte. byte < 256) bytes

pub are_small : (bytes : List ℕ) → AllSmall bytes → AreSmall bytes
are_small [] all k = omega arith
are_small (byte ∷ bytes) all zero = all.0
are_small (byte ∷ bytes) all (suc k) = are_small bytes all.1 k

take_small : (count : ℕ) (bytes : List ℕ) → AreSmall bytes → AllSmall (take count bytes)
take_small zero bytes small = tt
take_small (suc count) [] small = tt
take_small (suc count) (byte ∷ bytes) small = (small 0, take_small count bytes (λ k. small (suc k)))

drop_small : (count : ℕ) (bytes : List ℕ) → AreSmall bytes → AreSmall (drop count bytes)
drop_small zero bytes small = small
drop_small (suc count) [] small = small
drop_small (suc count) (byte ∷ bytes) small = drop_small count bytes (λ k. small (suc k))

pub there_small : (count place : ℕ) (bytes : List ℕ) → AreSmall bytes → AllSmall (take count (drop place bytes))
there_small count place bytes small = take_small count (drop place bytes) (drop_small place bytes small)

pub there_within : (bytes : List ℕ) (place : ℕ) (piece : List ℕ) (after : ℕ) → IsThere bytes place piece after → place ≤ length bytes → after ≤ length bytes
there_within bytes place piece after there within =
    let long : length piece ≡ min (length piece) (length bytes - place) =
    ap length (sym there.there) ∙ length-take (length piece) (drop place bytes) ∙ ap (min (length piece)) (length-drop place bytes) in
    let ends = there.ends in
    omega (arith, long, ends, within)

-- Their bits.

take_eight : (byte count : ℕ) (bits : List Bool) → take (8 * suc count) (number_bits 8 byte ++ bits) ≡ number_bits 8 byte ++ take (8 * count) bits
take_eight byte count bits =
    ap (λ (n : ℕ). take n (number_bits 8 byte ++ bits)) (let long = length-number_bits 8 byte in let e : 8 * suc count ≡ length (number_bits 8 byte) + 8 * count = omega (arith, long) in e)
    ∙ take-append-add (number_bits 8 byte) bits (8 * count)

drop_past : (front bits : List Bool) (n : ℕ) → drop (length front + n) (front ++ bits) ≡ drop n bits
drop_past [] bits n = let e : 0 + n ≡ n = omega arith in ap (λ (m : ℕ). drop m bits) e
drop_past (bit ∷ front) bits n = let e : suc (length front) + n ≡ suc (length front + n) = omega arith in ap (λ (m : ℕ). drop m (bit ∷ (front ++ bits))) e ∙ drop_past front bits n

drop_eight : (byte count : ℕ) (bits : List Bool) → drop (8 * suc count) (number_bits 8 byte ++ bits) ≡ drop (8 * count) bits
drop_eight byte count bits =
    ap (λ (n : ℕ). drop n (number_bits 8 byte ++ bits)) (let long = length-number_bits 8 byte in let e : 8 * suc count ≡ length (number_bits 8 byte) + 8 * count = omega (arith, long) in e)
    ∙ drop_past (number_bits 8 byte) bits (8 * count)

take_bits : (count : ℕ) (bytes : List ℕ) → take (8 * count) (bits_of bytes) ≡ bits_of (take count bytes)
take_bits zero bytes = refl
take_bits (suc count) [] = take-nil (8 * suc count)
take_bits (suc count) (byte ∷ bytes) = take_eight byte count (bits_of bytes) ∙ ap (λ (bits : List Bool). number_bits 8 byte ++ bits) (take_bits count bytes)

drop_bits : (count : ℕ) (bytes : List ℕ) → drop (8 * count) (bits_of bytes) ≡ bits_of (drop count bytes)
drop_bits zero bytes = refl
drop_bits (suc count) [] = drop-nil (8 * suc count)
drop_bits (suc count) (byte ∷ bytes) = drop_eight byte count (bits_of bytes) ∙ drop_bits count bytes

-- the bits of bytes at a place are those of the bytes there
window : (count place : ℕ) (bytes : List ℕ) → take (8 * count) (drop (8 * place) (bits_of bytes)) ≡ bits_of (take count (drop place bytes))
window count place bytes = ap (take (8 * count)) (drop_bits place bytes) ∙ take_bits count (drop place bytes)

same_bits : (one other : List ℕ) → AreSmall one → AreSmall other → bits_of one ≡ bits_of other → one ≡ other
same_bits one other small also same = sym (bytes_of-bits_of one small) ∙ ap bytes_of same ∙ bytes_of-bits_of other also

pub bits_there : (bytes : List ℕ) (place : ℕ) (piece : List ℕ) → take (length piece) (drop place bytes) ≡ piece
    → take (length (bits_of piece)) (drop (8 * place) (bits_of bytes)) ≡ bits_of piece
bits_there bytes place piece there =
    ap (λ (n : ℕ). take n (drop (8 * place) (bits_of bytes))) (length-bits_of piece) ∙ window (length piece) place bytes ∙ ap bits_of there

pub bytes_there : (bytes : List ℕ) (place : ℕ) (piece : List ℕ) → AreSmall bytes → AllSmall piece
    → take (length (bits_of piece)) (drop (8 * place) (bits_of bytes)) ≡ bits_of piece → take (length piece) (drop place bytes) ≡ piece
bytes_there bytes place piece small own there =
    same_bits (take (length piece) (drop place bytes)) piece (are_small _ (there_small (length piece) place bytes small)) (are_small piece own)
    (sym (window (length piece) place bytes) ∙ ap (λ (n : ℕ). take n (drop (8 * place) (bits_of bytes))) (sym (length-bits_of piece)) ∙ there)

-- Numbers and zeros.

pub be_bits : (count n : ℕ) → bits_of (be count n) ≡ number_bits (8 * count) n
unfolding be
be_bits count n = bits_of-number count n

byte_small : (k n : ℕ) → byte_at k n < 256
byte_small zero n = mod-lt n (omega arith)
byte_small (suc k) n = mod-lt (n / 256 ^ suc k) (omega arith)

high_small : (count n : ℕ) → AllSmall (bytes_high_first count n)
high_small zero n = tt
high_small (suc count) n = (byte_small count n, high_small count n)

pub be_small : (count n : ℕ) → AllSmall (be count n)
unfolding be
be_small count n = high_small count n

pub zeros_bits : (count : ℕ) → bits_of (replicate count 0) ≡ zeros (8 * count)
zeros_bits zero = refl
zeros_bits (suc count) =
    let e : 8 * suc count ≡ 8 + 8 * count = omega arith in
    ap (λ (bits : List Bool). bits ++ bits_of (replicate count 0)) (number_bits-zero 8)
    ∙ ap (λ (bits : List Bool). replicate 8 false ++ bits) (zeros_bits count)
    ∙ replicate-append-replicate 8 (8 * count) false ∙ ap zeros (sym e)

pub zeros_small : (count : ℕ) → AllSmall (replicate count 0)
zeros_small zero = tt
zeros_small (suc count) = (omega arith, zeros_small count)
