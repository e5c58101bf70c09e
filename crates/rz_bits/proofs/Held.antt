-- Bits that are filled to whole bytes, and the bytes in which they are held.
use Rattle.std.proofs.Common.{◌≡◌, ◌≢◌, ◌⊎◌, inl, inr, ℕ, zero, suc, ◌+◌, ◌-◌, ◌*◌, ◌/◌, ◌%◌, ◌^◌, ◌<◌, ◌≤◌, Bool, false, List, [], ◌∷◌, ◌++◌, length, take, drop, get_or, refl, sym, ap, subst, ◌∙◌, arith}
use Rattle.std.proofs.lemmas.Bool.{cases_eq}
use Rattle.std.proofs.lemmas.List.{append_assoc, append-nil, length-append, length-replicate, length-take-le, take_all, take_at, take-append-drop, drop_more, drop_all}
use Rattle.std.proofs.lemmas.Nat.{div-mul-add, mod-mul-add, shl-shr, shl_whole, one_shl, pow-add, pow_pos, mul-add-lt}
use Rattle.std.proofs.Math.Nat.{mod-lt, mod-add-div', add-mod-mod, add-mul-mod_self_right, mod_self, mul-mod_left}
use Rattle.std.specs.Int.{bytes_high_first}
use Rattle.rz_bits.specs.Bits.{number_bits, bits_of}
use Rattle.rz_bits.specs.BitBuf.{missing, zeros, filled}
use Rattle.rz_bits.specs.Held.{held, IsHeld, spelled}
use Rattle.rz_bits.proofs.Numbers.{length-number_bits, number_bits-add, number_bits-low, number_bits-zero}
use Rattle.rz_bits.proofs.Bytes.{bits_of-append, length-bits_of, bits_of-number, no_bits}

pub missing_below : (unit place : ℕ) → 0 < unit → missing unit place < unit
missing_below unit place h = mod-lt (unit - place % unit) h

pub filled_multiple : (unit : ℕ) (bits : List Bool) → 0 < unit → length (filled unit bits) % unit ≡ 0
filled_multiple unit bits h =
    let n : ℕ = length bits in
    let size : length (filled unit bits) ≡ n + missing unit n =
    length-append bits (zeros (missing unit n)) ∙ ap (λ k. n + k) (length-replicate (missing unit n) false) in
    let whole : n + (unit - n % unit) ≡ unit + n / unit * unit =
    (let d = mod-add-div' n unit in let l = mod-lt n h in omega (arith, d, l)) in
    ap (λ k. k % unit) size
    ∙ add-mod-mod n (unit - n % unit) unit
    ∙ ap (λ k. k % unit) whole
    ∙ add-mul-mod_self_right unit (n / unit) unit
    ∙ mod_self unit

-- How bits are held.

-- the bytes are as many as the bits need
pub held_size : (bytes : List ℕ) (count : ℕ) → IsHeld bytes count → 8 * length bytes ≡ count + missing 8 count
held_size bytes count is =
    sym (length-bits_of bytes)
    ∙ ap length is.filled
    ∙ length-append (held bytes count) (zeros (missing 8 (length (held bytes count))))
    ∙ ap (λ n. length (held bytes count) + n) (length-replicate (missing 8 (length (held bytes count))) false)
    ∙ ap (λ n. n + missing 8 n) is.there

-- the bits of a byte in two parts
byte_parts : (k byte : ℕ) → k ≤ 8 → number_bits 8 byte ≡ number_bits k (byte / 2 ^ (8 - k)) ++ number_bits (8 - k) byte
byte_parts k byte le =
    let e : 8 ≡ k + (8 - k) = omega arith in
    ap (λ w. number_bits w byte) e ∙ number_bits-add k (8 - k) byte

-- the bits of whole bytes, and the used ones of the open byte
pub held_parts : (bytes : List ℕ) (count : ℕ) → IsHeld bytes count
    → held bytes count ≡ bits_of (take (count / 8) bytes) ++ number_bits (count % 8) (get_or bytes (count / 8) 0 / 2 ^ (8 - count % 8))
held_parts bytes count is = by (cases_eq (count % 8) 0)
  where
    size : 8 * length bytes ≡ count + missing 8 count
    size = held_size bytes count is

    byte : ℕ
    byte = get_or bytes (count / 8) 0

    front : List Bool
    front = bits_of (take (count / 8) bytes)

    used : List Bool
    used = number_bits (count % 8) (get_or bytes (count / 8) 0 / 2 ^ (8 - count % 8))

    rest : List Bool
    rest = number_bits (8 - count % 8) (get_or bytes (count / 8) 0)

    none_used : count % 8 ≡ 0 → used ≡ []
    none_used none = ap (λ w. number_bits w (byte / 2 ^ (8 - count % 8))) none ∙ no_bits (byte / 2 ^ (8 - count % 8))

    open_byte : count / 8 < length bytes → drop (count / 8) bytes ≡ byte ∷ []
    open_byte within =
        drop_more bytes (count / 8) 0 within
        ∙ ap (λ xs. byte ∷ xs) (drop_all (count / 8 + 1) bytes (omega (arith, size)))

    parts : count / 8 < length bytes → bits_of bytes ≡ (front ++ used) ++ rest
    parts within =
        ap bits_of (sym (take-append-drop (count / 8) bytes))
        ∙ bits_of-append (take (count / 8) bytes) (drop (count / 8) bytes)
        ∙ ap (λ xs. front ++ bits_of xs) (open_byte within)
        ∙ ap (λ bs. front ++ bs) (append-nil (number_bits 8 byte) ∙ byte_parts (count % 8) byte (omega arith))
        ∙ sym (append_assoc front used rest)

    long : count / 8 < length bytes → length (front ++ used) ≡ count
    long within =
        length-append front used
        ∙ (let a = length-bits_of (take (count / 8) bytes) in
        let b = length-take-le (count / 8) bytes (omega (arith, within)) in
        let c = length-number_bits (count % 8) (byte / 2 ^ (8 - count % 8)) in omega (arith, a, b, c))

    by : (count % 8 ≡ 0) ⊎ (count % 8 ≢ 0) → held bytes count ≡ front ++ used
    by (inl none) =
        let n = length-bits_of bytes in
        take_all count (bits_of bytes) (omega (arith, n, size, none))
        ∙ ap bits_of (sym (take_all (count / 8) bytes (omega (arith, size, none))))
        ∙ sym (append-nil front)
        ∙ ap (λ bs. front ++ bs) (sym (none_used none))
    by (inr some) =
        let within : count / 8 < length bytes = omega (arith, size, some) in
        ap (take count) (parts within) ∙ take_at (front ++ used) rest count (long within)

-- the bits of the number that is written after whole bytes
spelled_bits : (byte u value width : ℕ)
    → number_bits (u + width + missing 8 (u + width)) (spelled byte u value width)
    ≡ (number_bits u (byte / 2 ^ (8 - u)) ++ number_bits width value) ++ zeros (missing 8 (u + width))
spelled_bits byte u value width = at (missing 8 (u + width))
  where
    low : (a y : ℕ) → y ≡ a * 2 ^ width + value % 2 ^ width → number_bits (u + width) y ≡ number_bits u a ++ number_bits width value
    low a y is =
        let small : value % 2 ^ width < 2 ^ width = mod-lt value (pow_pos width) in
        number_bits-add u width y
        ∙ ap (λ n. number_bits u n ++ number_bits width y) (ap (λ n. n / 2 ^ width) is ∙ div-mul-add a (2 ^ width) (value % 2 ^ width) small)
        ∙ ap (λ bs. number_bits u a ++ bs) (
        sym (number_bits-low width width y (omega arith))
        ∙ ap (number_bits width) (ap (λ n. n % 2 ^ width) is ∙ mod-mul-add a (2 ^ width) (value % 2 ^ width) small)
        ∙ number_bits-low width width value (omega arith)
        )

    spell : (a y pad : ℕ) → y ≡ a * 2 ^ width + value % 2 ^ width
        → number_bits (u + width + pad) (y * 2 ^ pad) ≡ (number_bits u a ++ number_bits width value) ++ zeros pad
    spell a y pad is =
        let rest : (y * 2 ^ pad) % 2 ^ pad ≡ 0 = mul-mod_left y (2 ^ pad) in
        number_bits-add (u + width) pad (y * 2 ^ pad)
        ∙ ap (λ n. number_bits (u + width) n ++ number_bits pad (y * 2 ^ pad)) (shl-shr y pad)
        ∙ ap (λ bs. bs ++ number_bits pad (y * 2 ^ pad)) (low a y is)
        ∙ ap (λ bs. (number_bits u a ++ number_bits width value) ++ bs) (
        sym (number_bits-low pad pad (y * 2 ^ pad) (omega arith))
        ∙ ap (number_bits pad) rest
        ∙ number_bits-zero pad
        )

    at : (pad : ℕ) → number_bits (u + width + pad) ((byte / 2 ^ (8 - u) * 2 ^ width + value % 2 ^ width) * 2 ^ pad)
        ≡ (number_bits u (byte / 2 ^ (8 - u)) ++ number_bits width value) ++ zeros pad
    at pad = spell (byte / 2 ^ (8 - u)) (byte / 2 ^ (8 - u) * 2 ^ width + value % 2 ^ width) pad refl

-- the bytes after digits are appended hold the bits before, and the digits
module _ (bytes new : List ℕ) (count value width size : ℕ) (is : IsHeld bytes count) (room : count + width < 2 ^ 31)
    (whole : 8 * size ≡ count % 8 + width + missing 8 (count % 8 + width))
    (written : new ≡ take (count / 8) bytes ++ bytes_high_first size (spelled (get_or bytes (count / 8) 0) (count % 8) value width)) where
  all_bits : bits_of new ≡ (held bytes count ++ number_bits width value) ++ zeros (missing 8 (count + width))
  all_bits =
      ap bits_of written
      ∙ bits_of-append (take (count / 8) bytes) (bytes_high_first size number)
      ∙ ap (λ bs. bits_of (take (count / 8) bytes) ++ bs) (bits_of-number size number ∙ ap (λ w. number_bits w number) whole ∙ spelled_bits byte (count % 8) value width)
      ∙ joined (bits_of (take (count / 8) bytes)) (number_bits (count % 8) (byte / 2 ^ (8 - count % 8))) (number_bits width value) (zeros (missing 8 (count % 8 + width)))
      ∙ ap (λ bs. (bs ++ number_bits width value) ++ zeros (missing 8 (count % 8 + width))) (sym (held_parts bytes count is))
      ∙ ap (λ n. (held bytes count ++ number_bits width value) ++ zeros n) same
    where
      byte : ℕ
      byte = get_or bytes (count / 8) 0

      number : ℕ
      number = spelled (get_or bytes (count / 8) 0) (count % 8) value width

      joined : (a b c d : List Bool) → a ++ ((b ++ c) ++ d) ≡ ((a ++ b) ++ c) ++ d
      joined a b c d = sym (append_assoc a (b ++ c) d) ∙ ap (λ bs. bs ++ d) (sym (append_assoc a b c))

      same : missing 8 (count % 8 + width) ≡ missing 8 (count + width)
      same = omega arith

  long : length (held bytes count ++ number_bits width value) ≡ count + width
  long = length-append (held bytes count) (number_bits width value) ∙ (let a = is.there in let b = length-number_bits width value in omega (arith, a, b))

  pub pushed_bits : held new (count + width) ≡ held bytes count ++ number_bits width value
  pushed_bits = ap (take (count + width)) all_bits ∙ take_at (held bytes count ++ number_bits width value) (zeros (missing 8 (count + width))) (count + width) long

  pub pushed_held : IsHeld new (count + width)
  pushed_held = record {
    there = ap length pushed_bits ∙ long;
    filled =
        all_bits
        ∙ ap (λ n. (held bytes count ++ number_bits width value) ++ zeros (missing 8 n)) (sym long)
        ∙ ap (λ bs. bs ++ zeros (missing 8 (length bs))) (sym pushed_bits);
    below = room;
  }

-- whole bytes after whole bytes hold the bits before, and their own
module _ (bytes more : List ℕ) (count : ℕ) (is : IsHeld bytes count) (whole : count % 8 ≡ 0) where
  abbrev total : ℕ
  total = count + 8 * length more

  all_own : held (bytes ++ more) total ≡ bits_of (bytes ++ more)
  all_own = take_all total (bits_of (bytes ++ more)) (omega (arith, held_size bytes count is, whole, length-bits_of (bytes ++ more), length-append bytes more))

  pub bytes_pushed : held (bytes ++ more) total ≡ held bytes count ++ bits_of more
  bytes_pushed =
      all_own
      ∙ bits_of-append bytes more
      ∙ ap (λ bs. bs ++ bits_of more) (sym (take_all count (bits_of bytes) (omega (arith, held_size bytes count is, whole, length-bits_of bytes))))

  pub bytes_held : total < 2 ^ 31 → IsHeld (bytes ++ more) total
  bytes_held room =
      let long : length (held (bytes ++ more) total) ≡ total =
      ap length all_own ∙ length-bits_of (bytes ++ more) ∙ (let a = held_size bytes count is in let b = length-append bytes more in omega (arith, a, b, whole)) in
      let none : missing 8 (length (held (bytes ++ more) total)) ≡ 0 = omega (arith, long, whole) in
      record {
        there = long;
        filled = sym (ap (λ n. held (bytes ++ more) total ++ zeros n) none ∙ append-nil (held (bytes ++ more) total) ∙ all_own);
        below = room;
      }

-- What the code computes.

-- no digit is lost in 64 bits
pub spelled_whole : (a v w pad : ℕ) → a < 2 ^ 8 → w ≤ 32 → pad < 8
    → (a * 2 ^ w % 2 ^ 64 + v % (1 * 2 ^ w % 2 ^ 64)) * 2 ^ pad % 2 ^ 64 ≡ (a * 2 ^ w + v % 2 ^ w) * 2 ^ pad
spelled_whole a v w pad small narrow short =
    let first : a * 2 ^ w % 2 ^ 64 ≡ a * 2 ^ w = shl_whole a 8 w 64 small (omega arith) in
    let one : 1 * 2 ^ w % 2 ^ 64 ≡ 2 ^ w = one_shl w 64 (omega arith) in
    let below : a * 2 ^ w + v % 2 ^ w < 2 ^ (w + 8) =
    subst (λ n. a * 2 ^ w + v % 2 ^ w < n) (sym (pow-add 2 w 8)) (mul-add-lt a (2 ^ w) (v % 2 ^ w) (2 ^ 8) small (mod-lt v (pow_pos w))) in
    ap (λ n. (n + v % (1 * 2 ^ w % 2 ^ 64)) * 2 ^ pad % 2 ^ 64) first
    ∙ ap (λ n. (a * 2 ^ w + v % n) * 2 ^ pad % 2 ^ 64) one
    ∙ shl_whole (a * 2 ^ w + v % 2 ^ w) (w + 8) pad 64 below (omega arith)

last_bytes : (j s n : ℕ) → drop j (bytes_high_first (j + s) n) ≡ bytes_high_first s n
last_bytes zero s n = let e : 0 + s ≡ s = omega arith in ap (λ k. bytes_high_first k n) e
last_bytes (suc j) s n = let e : suc j + s ≡ suc (j + s) = omega arith in ap (λ k. drop (suc j) (bytes_high_first k n)) e ∙ last_bytes j s n

pub length-bytes : (s n : ℕ) → length (bytes_high_first s n) ≡ s
length-bytes zero n = refl
length-bytes (suc s) n = ap suc (length-bytes s n)

-- the size of the piece that is written, in bytes
pub piece_size : (count width pad : ℕ) → pad ≡ missing 8 (count % 8 + width) → width ≤ 32
    → ((count % 8 + width + pad) / 8 ≤ 8) × (8 * ((count % 8 + width + pad) / 8) ≡ count % 8 + width + missing 8 (count % 8 + width))
piece_size count width pad is narrow = (omega (arith, is, narrow), omega (arith, is))

-- the last of eight bytes, as a slice has them
pub last_of_eight : (s n : ℕ) (xs : List ℕ) → s ≤ 8 → xs ≡ bytes_high_first 8 n → take (8 - (8 - s)) (drop (8 - s) xs) ≡ bytes_high_first s n
last_of_eight s n xs le is =
    let e : 8 ≡ (8 - s) + s = omega arith in
    let rest : drop (8 - s) xs ≡ bytes_high_first s n =
    ap (drop (8 - s)) is ∙ ap (λ k. drop (8 - s) (bytes_high_first k n)) e ∙ last_bytes (8 - s) s n in
    let size : length (drop (8 - s) xs) ≡ s = ap length rest ∙ length-bytes s n in
    take_all (8 - (8 - s)) (drop (8 - s) xs) (omega (arith, size)) ∙ rest
