-- Bytes and their bits.
use Rattle.std.proofs.Common.{◌≡◌, ℕ, zero, suc, ◌+◌, ◌-◌, ◌*◌, ◌/◌, ◌%◌, ◌^◌, ◌<◌, Bool, List, [], ◌∷◌, ◌++◌, length, take, drop, get_or, refl, sym, ap, ◌∙◌, arith}
use Rattle.std.proofs.lemmas.List.{append_assoc, length-append, length-take-le, length-drop, take_at, drop_at, drop_more, take-append-drop}
use Rattle.std.proofs.lemmas.Nat.{pow-add}
use Rattle.std.specs.Int.{byte_at, bytes_high_first}
use Rattle.rz_bits.specs.Bits.{number_bits, number_of, bits_of, front_bytes, bytes_of}
use Rattle.rz_bits.proofs.Numbers.{length-number_bits, number_bits-add, number_bits-low, number_of-number_bits, number_bits-number_of}

pub bits_of-append : (xs ys : List ℕ) → bits_of (xs ++ ys) ≡ bits_of xs ++ bits_of ys
bits_of-append [] ys = refl
bits_of-append (x ∷ xs) ys = ap (λ bs. number_bits 8 x ++ bs) (bits_of-append xs ys) ∙ sym (append_assoc (number_bits 8 x) (bits_of xs) (bits_of ys))

pub length-bits_of : (xs : List ℕ) → length (bits_of xs) ≡ 8 * length xs
length-bits_of [] = refl
length-bits_of (x ∷ xs) =
    length-append (number_bits 8 x) (bits_of xs)
    ∙ (let a = length-number_bits 8 x in let b = length-bits_of xs in omega arith)

pow_bytes : (k : ℕ) → 256 ^ k ≡ 2 ^ (8 * k)
pow_bytes zero = refl
pow_bytes (suc k) =
    let a : 256 ^ suc k ≡ 256 * 256 ^ k = omega arith in
    let e : 8 * suc k ≡ 8 + 8 * k = omega arith in
    a ∙ ap (λ n. 256 * n) (pow_bytes k) ∙ sym (pow-add 2 8 (8 * k)) ∙ ap (λ n. 2 ^ n) (sym e)

byte_bits : (k n : ℕ) → number_bits 8 (byte_at k n) ≡ number_bits 8 (n / 2 ^ (8 * k))
byte_bits zero n = number_bits-low 8 8 n (omega arith) ∙ ap (number_bits 8) (omega arith)
byte_bits (suc k) n = ap (λ p. number_bits 8 (n / p % 256)) (pow_bytes (suc k)) ∙ number_bits-low 8 8 (n / 2 ^ (8 * suc k)) (omega arith)

pub no_bits : (n : ℕ) → number_bits 0 n ≡ []
unfolding number_bits
no_bits n = refl

-- the bits of the last bytes of a number are its last bits
pub bits_of-number : (k n : ℕ) → bits_of (bytes_high_first k n) ≡ number_bits (8 * k) n
bits_of-number zero n = sym (no_bits n)
bits_of-number (suc k) n =
    let e : 8 + 8 * k ≡ 8 * suc k = omega arith in
    ap (λ bs. bs ++ bits_of (bytes_high_first k n)) (byte_bits k n)
    ∙ ap (λ bs. number_bits 8 (n / 2 ^ (8 * k)) ++ bs) (bits_of-number k n)
    ∙ sym (number_bits-add 8 (8 * k) n)
    ∙ ap (λ w. number_bits w n) e

front_again : (bytes : List ℕ) → ((k : ℕ) → get_or bytes k 0 < 256) → front_bytes (length bytes) (bits_of bytes) ≡ bytes
front_again [] small = refl
front_again (b ∷ bytes) small =
    let n = length-number_bits 8 b in
    let first : number_of (take 8 (number_bits 8 b ++ bits_of bytes)) ≡ b =
    ap number_of (take_at (number_bits 8 b) (bits_of bytes) 8 n) ∙ number_of-number_bits 8 b ∙ (let l : b < 256 = small 0 in omega arith) in
    ap (λ x. x ∷ front_bytes (length bytes) (drop 8 (number_bits 8 b ++ bits_of bytes))) first
    ∙ ap (λ bs. b ∷ front_bytes (length bytes) bs) (drop_at (number_bits 8 b) (bits_of bytes) 8 n)
    ∙ ap (λ bs. b ∷ bs) (front_again bytes (λ k. small (suc k)))

pub bytes_of-bits_of : (bytes : List ℕ) → ((k : ℕ) → get_or bytes k 0 < 256) → bytes_of (bits_of bytes) ≡ bytes
bytes_of-bits_of bytes small =
    let e : length (bits_of bytes) / 8 ≡ length bytes = (let n = length-bits_of bytes in omega arith) in
    ap (λ n. front_bytes n (bits_of bytes)) e ∙ front_again bytes small

pub front_bits : (n : ℕ) (bits : List Bool) → length bits ≡ 8 * n → bits_of (front_bytes n bits) ≡ bits
front_bits zero [] is = refl
front_bits zero (b ∷ bits) is = absurd (omega arith)
front_bits (suc n) bits is =
    let eight : length (take 8 bits) ≡ 8 = length-take-le 8 bits (omega arith) in
    let rest : length (drop 8 bits) ≡ 8 * n = length-drop 8 bits ∙ omega arith in
    let first : number_bits 8 (number_of (take 8 bits)) ≡ take 8 bits =
    ap (λ w. number_bits w (number_of (take 8 bits))) (sym eight) ∙ number_bits-number_of (take 8 bits) in
    ap (λ bs. bs ++ bits_of (front_bytes n (drop 8 bits))) first
    ∙ ap (λ bs. take 8 bits ++ bs) (front_bits n (drop 8 bits) rest)
    ∙ take-append-drop 8 bits

pub bits_of-bytes_of : (bits : List Bool) → length bits % 8 ≡ 0 → bits_of (bytes_of bits) ≡ bits
bits_of-bytes_of bits whole = front_bits (length bits / 8) bits (omega arith)

-- one byte more of some
pub byte_more : (bits after all : List Bool) (bytes : List ℕ) (i : ℕ) → i < length bytes → after ≡ bits ++ number_bits 8 (get_or bytes i 0)
    → bits ++ bits_of (drop i bytes) ≡ all → after ++ bits_of (drop (i + 1) bytes) ≡ all
byte_more bits after all bytes i less is so =
    ap (λ bs. bs ++ bits_of (drop (i + 1) bytes)) is
    ∙ append_assoc bits (number_bits 8 (get_or bytes i 0)) (bits_of (drop (i + 1) bytes))
    ∙ ap (λ bs. bits ++ bits_of bs) (sym (drop_more bytes i 0 less))
    ∙ so

pub byte_room : (bits after : List Bool) (byte i count : ℕ) → i < count → after ≡ bits ++ number_bits 8 byte → length bits + 8 * (count - i) < 2147483648
    → length after + 8 * (count - (i + 1)) < 2147483648
byte_room bits after byte i count less is room =
    let size : length after ≡ length bits + 8 = ap length is ∙ length-append bits (number_bits 8 byte) ∙ ap (λ n. length bits + n) (length-number_bits 8 byte) in
    let split : count - i ≡ suc (count - (i + 1)) = omega (arith, less) in
    omega (arith, size, split, room, less)
