-- A number that is written over bits.
use Rattle.std.proofs.Common.{◌≡◌, ℕ, ◌+◌, ◌-◌, ◌*◌, ◌/◌, ◌%◌, ◌^◌, ◌<◌, ◌≤◌, Bool, List, ◌++◌, length, take, drop, sym, ap, subst, ◌∙◌, arith}
use Rattle.std.proofs.lemmas.List.{append_assoc, length-append, length-take-le, length-drop, take_at, drop_at, take-append-drop, take-append-le, drop-append-le}
use Rattle.std.proofs.lemmas.Nat.{div-mul-add, mod-mul-add, one_shl, pow_pos, shl_whole, shr-shr, shr_le}
use Rattle.std.proofs.Math.Nat.{mod-add-div', mod-le, mod-lt}
use Rattle.std.proofs.Math.Pow.{pow_mono}
use Rattle.rz_bits.specs.Bits.{bits_of, number_bits}
use Rattle.rz_bits.specs.BitBuf.{missing, zeros}
use Rattle.rz_bits.specs.Held.{held, IsHeld}
use Rattle.rz_bits.specs.Patch.{patched}
use Rattle.rz_bits.proofs.Bytes.{bits_of-append, length-bits_of}
use Rattle.rz_bits.proofs.Numbers.{length-number_bits, number_bits-add, number_bits-low}

-- Digits.

module _ (number behind width value : ℕ) where
  abbrev high : ℕ
  high = number / 2 ^ (behind + width)

  abbrev middle : ℕ
  middle = high * 2 ^ width + value % 2 ^ width

  abbrev low : ℕ
  low = number % 2 ^ behind

  -- before the last ones
  above : patched number behind width value / 2 ^ behind ≡ middle
  above = div-mul-add middle (2 ^ behind) low (mod-lt number (pow_pos behind))

  over : patched number behind width value / 2 ^ (width + behind) ≡ number / 2 ^ (width + behind)
  over =
      let turned : width + behind ≡ behind + width = omega arith in
      ap (λ n. patched number behind width value / 2 ^ n) turned
      ∙ sym (shr-shr (patched number behind width value) behind width)
      ∙ ap (λ n. n / 2 ^ width) above
      ∙ div-mul-add high (2 ^ width) (value % 2 ^ width) (mod-lt value (pow_pos width))
      ∙ ap (λ n. number / 2 ^ n) (sym turned)

  within_them : number_bits width (patched number behind width value / 2 ^ behind) ≡ number_bits width value
  within_them =
      ap (number_bits width) above
      ∙ sym (number_bits-low width width middle (omega arith))
      ∙ ap (number_bits width) (mod-mul-add high (2 ^ width) (value % 2 ^ width) (mod-lt value (pow_pos width)))
      ∙ number_bits-low width width value (omega arith)

  behind_them : number_bits behind (patched number behind width value) ≡ number_bits behind number
  behind_them =
      sym (number_bits-low behind behind (patched number behind width value) (omega arith))
      ∙ ap (number_bits behind) (mod-mul-add middle (2 ^ behind) low (mod-lt number (pow_pos behind)))
      ∙ number_bits-low behind behind number (omega arith)

  -- the bits of a number in three parts
  three : (used n : ℕ) → number_bits (used + (width + behind)) n ≡ number_bits used (n / 2 ^ (width + behind)) ++ (number_bits width (n / 2 ^ behind) ++ number_bits behind n)
  three used n = number_bits-add used (width + behind) n ∙ ap (λ bs. number_bits used (n / 2 ^ (width + behind)) ++ bs) (number_bits-add width behind n)

  pub patched_bits : (used : ℕ) → number_bits (used + (width + behind)) (patched number behind width value)
      ≡ number_bits used (number / 2 ^ (width + behind)) ++ (number_bits width value ++ number_bits behind number)
  patched_bits used =
      three used (patched number behind width value)
      ∙ ap (λ n. number_bits used n ++ (number_bits width (patched number behind width value / 2 ^ behind) ++ number_bits behind (patched number behind width value))) over
      ∙ ap (λ bs. number_bits used (number / 2 ^ (width + behind)) ++ (bs ++ number_bits behind (patched number behind width value))) within_them
      ∙ ap (λ bs. number_bits used (number / 2 ^ (width + behind)) ++ (number_bits width value ++ bs)) behind_them

-- as the code computes it

high_small : (number behind width : ℕ) → number / 2 ^ (behind + width) * 2 ^ width ≤ number
high_small number behind width =
    let e : number / 2 ^ (behind + width) ≡ number / 2 ^ behind / 2 ^ width = sym (shr-shr number behind width) in
    let less = shr_le number behind in
    let parts = mod-add-div' (number / 2 ^ behind) (2 ^ width) in
    subst (λ n. n * 2 ^ width ≤ number) (sym e) (omega (arith, less, parts))

high_whole : (number behind width : ℕ) → number < 2 ^ 40 → number / 2 ^ (behind + width) * 2 ^ width % 2 ^ 64 ≡ number / 2 ^ (behind + width) * 2 ^ width
high_whole number behind width small = within (number / 2 ^ (behind + width) * 2 ^ width) (high_small number behind width)
  where
    within : (n : ℕ) → n ≤ number → n % 2 ^ 64 ≡ n
    within n le = omega arith

middle_small : (number behind width value : ℕ) → number < 2 ^ 40 → width ≤ 32 → number / 2 ^ (behind + width) * 2 ^ width + value % 2 ^ width < 2 ^ 41
middle_small number behind width value small narrow =
    let front = high_small number behind width in
    let rest = mod-lt value (pow_pos width) in
    let p : 2 ^ width ≤ 2 ^ 32 = pow_mono {i = width} {j = 32} narrow in
    added (number / 2 ^ (behind + width) * 2 ^ width) (value % 2 ^ width) (2 ^ width) front rest p
  where
    added : (a b c : ℕ) → a ≤ number → b < c → c ≤ 2 ^ 32 → a + b < 2 ^ 41
    added a b c front rest p = omega arith

pub patched_whole : (number behind width value : ℕ) → number < 2 ^ 40 → behind < 8 → width ≤ 32
    → (number / 2 ^ (behind + width) * 2 ^ width % 2 ^ 64 + value % (1 * 2 ^ width % 2 ^ 64)) * 2 ^ behind % 2 ^ 64 + number % (1 * 2 ^ behind % 2 ^ 64)
    ≡ patched number behind width value
patched_whole number behind width value small short narrow =
    ap (λ n. (n + value % (1 * 2 ^ width % 2 ^ 64)) * 2 ^ behind % 2 ^ 64 + number % (1 * 2 ^ behind % 2 ^ 64)) (high_whole number behind width small)
    ∙ ap (λ n. (number / 2 ^ (behind + width) * 2 ^ width + value % n) * 2 ^ behind % 2 ^ 64 + number % (1 * 2 ^ behind % 2 ^ 64)) (one_shl width 64 (omega arith))
    ∙ ap (λ n. (number / 2 ^ (behind + width) * 2 ^ width + value % 2 ^ width) * 2 ^ behind % 2 ^ 64 + number % n) (one_shl behind 64 (omega arith))
    ∙ ap (λ n. n + number % 2 ^ behind)
    (shl_whole (number / 2 ^ (behind + width) * 2 ^ width + value % 2 ^ width) 41 behind 64 (middle_small number behind width value small narrow) (omega arith))

-- the sums fit
pub middle_fits : (number behind width value : ℕ) → number < 2 ^ 40 → width ≤ 32
    → number / 2 ^ (behind + width) * 2 ^ width % 2 ^ 64 + value % (1 * 2 ^ width % 2 ^ 64) < 2 ^ 64
middle_fits number behind width value small narrow =
    let m = middle_small number behind width value small narrow in
    let e : number / 2 ^ (behind + width) * 2 ^ width % 2 ^ 64 + value % (1 * 2 ^ width % 2 ^ 64) ≡ number / 2 ^ (behind + width) * 2 ^ width + value % 2 ^ width =
    ap (λ n. n + value % (1 * 2 ^ width % 2 ^ 64)) (high_whole number behind width small)
    ∙ ap (λ n. number / 2 ^ (behind + width) * 2 ^ width + value % n) (one_shl width 64 (omega arith)) in
    omega (arith, m, e)

pub patched_fits : (number behind width value : ℕ) → number < 2 ^ 40 → behind < 8 → width ≤ 32
    → (number / 2 ^ (behind + width) * 2 ^ width % 2 ^ 64 + value % (1 * 2 ^ width % 2 ^ 64)) * 2 ^ behind % 2 ^ 64 + number % (1 * 2 ^ behind % 2 ^ 64) < 2 ^ 64
patched_fits number behind width value small short narrow =
    let m = middle_small number behind width value small narrow in
    let e = patched_whole number behind width value small short narrow in
    let low : number % 2 ^ behind ≤ number = mod-le number (2 ^ behind) in
    let wide : (number / 2 ^ (behind + width) * 2 ^ width + value % 2 ^ width) * 2 ^ behind < 2 ^ (41 + 7) =
    below (number / 2 ^ (behind + width) * 2 ^ width + value % 2 ^ width) m in
    omega (arith, e, low, wide, small)
  where
    more : (a b c : ℕ) → b ≤ c → a * b ≤ a * c
    more a b c le = grind arith

    below : (m : ℕ) → m < 2 ^ 41 → m * 2 ^ behind < 2 ^ (41 + 7)
    below m is =
        let p : 2 ^ behind ≤ 2 ^ 7 = pow_mono {i = behind} {j = 7} (omega arith) in
        let up : m * 2 ^ behind ≤ m * 2 ^ 7 = more m (2 ^ behind) (2 ^ 7) p in
        omega (arith, up, is)

-- Lists.

pub over_list : (a u o n l r : List Bool) (place width : ℕ) → length (a ++ u) ≡ place → length o ≡ width
    → a ++ ((u ++ (n ++ l)) ++ r) ≡ take place (a ++ ((u ++ (o ++ l)) ++ r)) ++ (n ++ drop (place + width) (a ++ ((u ++ (o ++ l)) ++ r)))
over_list a u o n l r place width long wide =
    apart n
    ∙ ap (λ bs. (a ++ u) ++ (n ++ bs)) (sym behind)
    ∙ ap (λ bs. bs ++ (n ++ drop (place + width) (a ++ ((u ++ (o ++ l)) ++ r)))) (sym before)
  where
    apart : (m : List Bool) → a ++ ((u ++ (m ++ l)) ++ r) ≡ (a ++ u) ++ (m ++ (l ++ r))
    apart m =
        ap (λ bs. a ++ bs) (append_assoc u (m ++ l) r ∙ ap (λ bs. u ++ bs) (append_assoc m l r))
        ∙ sym (append_assoc a u (m ++ (l ++ r)))

    before : take place (a ++ ((u ++ (o ++ l)) ++ r)) ≡ a ++ u
    before = ap (take place) (apart o) ∙ take_at (a ++ u) (o ++ (l ++ r)) place long

    behind : drop (place + width) (a ++ ((u ++ (o ++ l)) ++ r)) ≡ l ++ r
    behind =
        ap (drop (place + width)) (apart o ∙ sym (append_assoc (a ++ u) o (l ++ r)))
        ∙ drop_at ((a ++ u) ++ o) (l ++ r) (place + width) (length-append (a ++ u) o ∙ (let s : length (a ++ u) + length o ≡ place + width = omega (arith, long, wide) in s))

-- The bits of bytes of which some are written anew.

pub written : (bytes piece : List ℕ) (place width value size number : ℕ) → place + width ≤ 8 * length bytes → size ≡ (place % 8 + width + 7) / 8
    → number_bits (8 * size) number ≡ bits_of (take size (drop (place / 8) bytes))
    → bits_of piece ≡ number_bits (8 * size) (patched number (8 * size - place % 8 - width) width value)
    → bits_of (take (place / 8) bytes ++ (piece ++ drop size (drop (place / 8) bytes)))
    ≡ take place (bits_of bytes) ++ (number_bits width value ++ drop (place + width) (bits_of bytes))
written bytes piece place width value size number there is so made =
    bits_of-append (take first bytes) (piece ++ drop size (drop first bytes))
    ∙ ap (λ bs. front ++ bs) (bits_of-append piece (drop size (drop first bytes)) ∙ ap (λ bs. bs ++ rest) (made ∙ ap (λ n. number_bits n (patched number behind width value)) whole ∙ patched_bits number behind width value used))
    ∙ over_list front (number_bits used (number / 2 ^ (width + behind))) (number_bits width (number / 2 ^ behind)) (number_bits width value) (number_bits behind number) rest place width long (length-number_bits width (number / 2 ^ behind))
    ∙ ap (λ bs. take place bs ++ (number_bits width value ++ drop (place + width) bs)) (sym old)
  where
    first : ℕ
    first = place / 8

    used : ℕ
    used = place % 8

    behind : ℕ
    behind = 8 * size - used - width

    front : List Bool
    front = bits_of (take first bytes)

    rest : List Bool
    rest = bits_of (drop size (drop first bytes))

    whole : 8 * size ≡ used + (width + behind)
    whole = omega (arith, is)

    long : length (front ++ number_bits used (number / 2 ^ (width + behind))) ≡ place
    long =
        length-append front (number_bits used (number / 2 ^ (width + behind)))
        ∙ (let a = length-bits_of (take first bytes) in let b = length-take-le first bytes (omega (arith, there)) in let d = length-number_bits used (number / 2 ^ (width + behind)) in omega (arith, a, b, d))

    old : bits_of bytes ≡ front ++ ((number_bits used (number / 2 ^ (width + behind)) ++ (number_bits width (number / 2 ^ behind) ++ number_bits behind number)) ++ rest)
    old =
        ap bits_of (sym (take-append-drop first bytes))
        ∙ bits_of-append (take first bytes) (drop first bytes)
        ∙ ap (λ bs. front ++ bs) (ap bits_of (sym (take-append-drop size (drop first bytes))) ∙ bits_of-append (take size (drop first bytes)) (drop size (drop first bytes))
        ∙ ap (λ bs. bs ++ rest) (sym so ∙ ap (λ n. number_bits n number) whole ∙ three number behind width value used number))

-- Bits that are held.

module _ (bytes made : List ℕ) (count place width : ℕ) (n : List Bool) (is : IsHeld bytes count) (there : place + width ≤ count) (wide : length n ≡ width)
    (so : bits_of made ≡ take place (bits_of bytes) ++ (n ++ drop (place + width) (bits_of bytes))) where
  abbrev all : List Bool
  all = held bytes count

  abbrev fill : List Bool
  fill = zeros (missing 8 (length all))

  abbrev new : List Bool
  new = take place all ++ (n ++ drop (place + width) all)

  all_long : length all ≡ count
  all_long = is.there

  size : length new ≡ count
  size =
      length-append (take place all) (n ++ drop (place + width) all)
      ∙ (let a = length-take-le place all (omega (arith, all_long, there)) in let b = length-append n (drop (place + width) all) in
      let d = length-drop (place + width) all in omega (arith, a, b, d, all_long, wide, there))

  bits : bits_of made ≡ new ++ fill
  bits =
      so
      ∙ ap (λ bs. take place bs ++ (n ++ drop (place + width) bs)) is.filled
      ∙ ap (λ bs. bs ++ (n ++ drop (place + width) (all ++ fill))) (take-append-le place all fill (omega (arith, all_long, there)))
      ∙ ap (λ bs. take place all ++ (n ++ bs)) (drop-append-le (place + width) all fill (omega (arith, all_long, there)))
      ∙ ap (λ bs. take place all ++ bs) (sym (append_assoc n (drop (place + width) all) fill))
      ∙ sym (append_assoc (take place all) (n ++ drop (place + width) all) fill)

  pub held_now : held made count ≡ take place (held bytes count) ++ (n ++ drop (place + width) (held bytes count))
  held_now = ap (take count) bits ∙ take_at new fill count size

  pub is_held : IsHeld made count
  is_held = record {
    there = ap length held_now ∙ size;
    filled = bits ∙ ap (λ bs. bs ++ fill) (sym held_now) ∙ ap (λ m. held made count ++ zeros (missing 8 m)) (is.there ∙ sym (ap length held_now ∙ size));
    below = is.below;
  }
