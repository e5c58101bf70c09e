-- Digits that are written have the number and the bytes that they were written of.
use Rattle.std.proofs.Common.{◌≡◌, ℕ, zero, suc, ◌+◌, ◌*◌, ◌/◌, ◌%◌, ◌<◌, ◌≤◌, ◌^◌, true, false, ◌⊎◌, inl, inr, List, [], ◌∷◌, ◌++◌, Some, length, refl, sym, ap, subst, ◌∙◌, arith, length-append}
use Rattle.std.specs.Prelude.{nat_lt, nat_le, ◌==◌, ◌&&◌, ◌||◌}
use Rattle.std.proofs.lemmas.Bool.{agree_below_at, and_parts, eqb-true, false≢true, lt-ltb, ne_eqb}
use Rattle.std.proofs.lemmas.List.{append-nil}
use Rattle.std.proofs.Math.Nat.{pow-zero, pow-suc, div-lt_iff_lt-mul}
use Rattle.rz_core.specs.Quoted.{hex_byte, hex_digit}
use Rattle.rz_core.specs.declared.fault.Mark.{Mark}
use Rattle.rz_lex.specs.Classes.{is_blank, is_hex_digit, is_word_byte, AreBlanks}
use Rattle.rz_lex.specs.Cutting.{Next}
use Rattle.rz_lex.specs.Digits.{are_digits, digit_value, digits_value, spelled_from, value_behind_0}
use Rattle.rz_lex.specs.Escape.{before}
use Rattle.rz_lex.specs.Extent.{are_word_bytes}
use Rattle.rz_lex.specs.Hex.{hex_value}
use Rattle.rz_lex.specs.Printed.{begins_word, token_of, AreBytes}
use Rattle.rz_lex.specs.Spelled.{digits_of, SpellsBytes}
use Rattle.rz_lex.specs.declared.token.Shape.TheVariants as shapes
use Rattle.rz_core.proofs.Tests.{and_so, by_test}
use Rattle.rz_lex.proofs.HexBack.{dollar_back, hex_back}
use Rattle.rz_lex.proofs.WordsBack.{digits_back}

-- One digit.

digit_back : (d : ℕ) → d < 16 → digit_value (hex_digit d) ≡ d
digit_back d below = eqb-true (digit_value (hex_digit d)) d (agree_below_at (λ k. digit_value (hex_digit k) == k) (λ k. true) 16 d refl below)

digit_is_hex : (d : ℕ) → d < 16 → is_hex_digit (hex_digit d) ≡ true
digit_is_hex d below = agree_below_at (λ k. is_hex_digit (hex_digit k)) (λ k. true) 16 d refl below

digit_in_word : (d : ℕ) → d < 16 → is_word_byte (hex_digit d) ≡ true
digit_in_word d below = agree_below_at (λ k. is_word_byte (hex_digit k)) (λ k. true) 16 d refl below

-- Digits of a number.

spelled_more : (base number : ℕ) (ds : List ℕ) (d : ℕ) → spelled_from base number (ds ++ d ∷ []) ≡ base * spelled_from base number ds + digit_value d
spelled_more base number [] d = refl
spelled_more base number (c ∷ ds) d = spelled_more base (base * number + digit_value c) ds d

digits_more : (base : ℕ) (ds : List ℕ) (d : ℕ) → are_digits base ds ≡ true → nat_lt (digit_value d) base ≡ true → are_digits base (ds ++ d ∷ []) ≡ true
digits_more base [] d all one = rw one refl
digits_more base (c ∷ ds) d all one = by_test (are_digits base ((c ∷ ds) ++ d ∷ []) ≡ true) (nat_lt (digit_value c) base)
    (λ h. (let rest : are_digits base ds ≡ true = rw h at all in rw h (digits_more base ds d rest one)))
    (λ h. (let never = rw h at all in absurd cc))

words_more : (ds : List ℕ) (d : ℕ) → are_word_bytes ds ≡ true → is_word_byte d ≡ true → are_word_bytes (ds ++ d ∷ []) ≡ true
words_more [] d all one = rw one refl
words_more (c ∷ ds) d all one = by_test (are_word_bytes ((c ∷ ds) ++ d ∷ []) ≡ true) (is_word_byte c)
    (λ h. (let rest : are_word_bytes ds ≡ true = rw h at all in rw h (words_more ds d rest one)))
    (λ h. (let never = rw h at all in absurd cc))

module _ (base : ℕ) (some : 1 < base) (most : base ≤ 16) where
  last_below : (number : ℕ) → number % base < 16
  last_below number = omega arith

  last_fits : (number : ℕ) → number % base < base
  last_fits number = omega arith

  back : (count number : ℕ) → number < base ^ count → spelled_from base 0 (digits_of base count number) ≡ number
  back zero number below = omega (arith, pow-zero base)
  back (suc count) number below =
      let less : number < base ^ count * base = subst (λ (x : ℕ). number < x) (pow-suc base count) below in
      let higher = back count (number / base) ((div-lt_iff_lt-mul (omega arith)).1 less) in
      spelled_more base 0 (digits_of base count (number / base)) (hex_digit (number % base))
      ∙ rw (higher, digit_back (number % base) (last_below number)) (omega arith)

  pub all_digits : (count number : ℕ) → are_digits base (digits_of base count number) ≡ true
  all_digits zero number = refl
  all_digits (suc count) number =
      digits_more base (digits_of base count (number / base)) (hex_digit (number % base)) (all_digits count (number / base))
      (rw (digit_back (number % base) (last_below number)) (lt-ltb (number % base) base (last_fits number)))

  pub all_words : (count number : ℕ) → are_word_bytes (digits_of base count number) ≡ true
  all_words zero number = refl
  all_words (suc count) number =
      words_more (digits_of base count (number / base)) (hex_digit (number % base)) (all_words count (number / base)) (digit_in_word (number % base) (last_below number))

  pub how_many : (count number : ℕ) → length (digits_of base count number) ≡ count
  how_many zero number = refl
  how_many (suc count) number =
      length-append (digits_of base count (number / base)) (hex_digit (number % base) ∷ []) ∙ omega (arith, how_many count (number / base))

  pub value_back : (count number : ℕ) → 0 < count → number < 2 ^ 32 → number < base ^ count → digits_value base (digits_of base count number) ≡ Some number
  value_back count number there below fits =
      rw (how_many count number, lt-ltb 0 count there, all_digits count number, back count number fits, lt-ltb number (2 ^ 32) below) refl

-- Octal, hexadecimal and binary numbers after a 0.

octal_value : (ds : List ℕ) (n : ℕ) → are_digits 8 ds ≡ true → 0 < length ds → digits_value 8 ds ≡ Some n → value_behind_0 ds ≡ Some n
octal_value [] n all some value = absurd (omega arith)
octal_value (d ∷ ds) n all some value = by_test (value_behind_0 (d ∷ ds) ≡ Some n) (nat_lt (digit_value d) 8)
    (λ h. rw (is_not 120 refl h, is_not 88 refl h, is_not 98 refl h, is_not 66 refl h) value)
    (λ h. (let never = rw h at all in absurd cc))
  where
    is_not : (x : ℕ) → nat_lt (digit_value x) 8 ≡ false → nat_lt (digit_value d) 8 ≡ true → (d == x) ≡ false
    is_not x other digit = ne_eqb d x (λ e. false≢true (sym other ∙ ap (λ (y : ℕ). nat_lt (digit_value y) 8) (sym e) ∙ digit))

pub octal_back : (mark : Mark) (count number : ℕ) (after : List ℕ) → 0 < count → count ≤ 254 → number < 2 ^ 32 → number < 8 ^ count → begins_word after ≡ false
    → Next mark ((48 ∷ digits_of 8 count number) ++ after) (token_of mark (shapes.Number number)) after
octal_back mark count number after some short below fits clear =
    let size = how_many 8 (omega arith) (omega arith) count number in
    digits_back mark 48 (digits_of 8 count number) after number refl (all_words 8 (omega arith) (omega arith) count number) (omega (arith, size))
    (octal_value (digits_of 8 count number) number (all_digits 8 (omega arith) (omega arith) count number) (omega (arith, size)) (value_back 8 (omega arith) (omega arith) count number some below fits))
    clear

hexadecimal_here : (mark : Mark) (letter count number : ℕ) (after : List ℕ) → is_word_byte letter ≡ true → (letter == 120 || letter == 88) ≡ true
    → 0 < count → count ≤ 253 → number < 2 ^ 32 → number < 16 ^ count → begins_word after ≡ false
    → Next mark ((48 ∷ letter ∷ digits_of 16 count number) ++ after) (token_of mark (shapes.Number number)) after
hexadecimal_here mark letter count number after in_word is some short below fits clear =
    let size = how_many 16 (omega arith) (omega arith) count number in
    digits_back mark 48 (letter ∷ digits_of 16 count number) after number refl
    (and_so (is_word_byte letter) (are_word_bytes (digits_of 16 count number)) in_word (all_words 16 (omega arith) (omega arith) count number)) (omega (arith, size))
    (rw is (value_back 16 (omega arith) (omega arith) count number some below fits)) clear

pub hexadecimal_back : (mark : Mark) (letter count number : ℕ) (after : List ℕ) → (letter ≡ 120) ⊎ (letter ≡ 88)
    → 0 < count → count ≤ 253 → number < 2 ^ 32 → number < 16 ^ count → begins_word after ≡ false
    → Next mark ((48 ∷ letter ∷ digits_of 16 count number) ++ after) (token_of mark (shapes.Number number)) after
hexadecimal_back mark letter count number after (inl is) = hexadecimal_here mark letter count number after (ap is_word_byte is) (ap (λ (x : ℕ). x == 120 || x == 88) is)
hexadecimal_back mark letter count number after (inr is) = hexadecimal_here mark letter count number after (ap is_word_byte is) (ap (λ (x : ℕ). x == 120 || x == 88) is)

binary_here : (mark : Mark) (letter count number : ℕ) (after : List ℕ) → is_word_byte letter ≡ true → (letter == 120 || letter == 88) ≡ false → (letter == 98 || letter == 66) ≡ true
    → 0 < count → count ≤ 253 → number < 2 ^ 32 → number < 2 ^ count → begins_word after ≡ false
    → Next mark ((48 ∷ letter ∷ digits_of 2 count number) ++ after) (token_of mark (shapes.Number number)) after
binary_here mark letter count number after in_word other is some short below fits clear =
    let size = how_many 2 (omega arith) (omega arith) count number in
    digits_back mark 48 (letter ∷ digits_of 2 count number) after number refl
    (and_so (is_word_byte letter) (are_word_bytes (digits_of 2 count number)) in_word (all_words 2 (omega arith) (omega arith) count number)) (omega (arith, size))
    (rw (other, is) (value_back 2 (omega arith) (omega arith) count number some below fits)) clear

pub binary_back : (mark : Mark) (letter count number : ℕ) (after : List ℕ) → (letter ≡ 98) ⊎ (letter ≡ 66)
    → 0 < count → count ≤ 253 → number < 2 ^ 32 → number < 2 ^ count → begins_word after ≡ false
    → Next mark ((48 ∷ letter ∷ digits_of 2 count number) ++ after) (token_of mark (shapes.Number number)) after
binary_back mark letter count number after (inl is) =
    binary_here mark letter count number after (ap is_word_byte is) (ap (λ (x : ℕ). x == 120 || x == 88) is) (ap (λ (x : ℕ). x == 98 || x == 66) is)
binary_back mark letter count number after (inr is) =
    binary_here mark letter count number after (ap is_word_byte is) (ap (λ (x : ℕ). x == 120 || x == 88) is) (ap (λ (x : ℕ). x == 98 || x == 66) is)

-- Hexadecimal numbers after `$`.

-- a byte with the value of a hex digit is one
hex_of_value : (d : ℕ) → nat_lt (digit_value d) 16 ≡ true → is_hex_digit d ≡ true
hex_of_value d is = by_test (is_hex_digit d ≡ true) (nat_le 48 d && nat_le d 57)
    (λ h. rw h refl)
    (λ h. by_test (is_hex_digit d ≡ true) (nat_le 97 d && nat_le d 102)
    (λ k. rw (h, k) refl)
    (λ k. by_test (is_hex_digit d ≡ true) (nat_le 65 d && nat_le d 70)
    (λ l. rw (h, k, l) refl)
    (λ l. (let never : nat_lt 36 16 ≡ true = rw (h, k, l) at is in absurd (false≢true never)))))

dollar_here : (mark : Mark) (ds after : List ℕ) (n : ℕ) → are_digits 16 ds ≡ true → are_word_bytes ds ≡ true → 0 < length ds → length ds ≤ 254 → digits_value 16 ds ≡ Some n
    → begins_word after ≡ false → Next mark ((36 ∷ ds) ++ after) (token_of mark (shapes.Number n)) after
dollar_here mark [] after n all words some short value clear = absurd (omega arith)
dollar_here mark (d ∷ ds) after n all words some short value clear =
    let first = and_parts (nat_lt (digit_value d) 16) (are_digits 16 ds) all in
    let rest = and_parts (is_word_byte d) (are_word_bytes ds) words in
    dollar_back mark d ds after n (hex_of_value d first.0) rest.1 (omega arith) value clear

pub dollar_digits_back : (mark : Mark) (count number : ℕ) (after : List ℕ) → 0 < count → count ≤ 254 → number < 2 ^ 32 → number < 16 ^ count → begins_word after ≡ false
    → Next mark ((36 ∷ digits_of 16 count number) ++ after) (token_of mark (shapes.Number number)) after
dollar_digits_back mark count number after some short below fits clear =
    let size = how_many 16 (omega arith) (omega arith) count number in
    dollar_here mark (digits_of 16 count number) after number (all_digits 16 (omega arith) (omega arith) count number) (all_words 16 (omega arith) (omega arith) count number)
    (omega (arith, size)) (omega (arith, size)) (value_back 16 (omega arith) (omega arith) count number some below fits) clear

-- Bytes in hex digits.

blanks_over : (gap rest : List ℕ) → AreBlanks gap → hex_value (gap ++ rest) ≡ hex_value rest
blanks_over [] rest all = refl
blanks_over (b ∷ gap) rest all = rw all.0 (blanks_over gap rest all.1)

digit_no_blank : (d : ℕ) → d < 16 → is_blank (hex_digit d) ≡ false
digit_no_blank d below = agree_below_at (λ k. is_blank (hex_digit k)) (λ k. false) 16 d refl below

digit_fits : (d : ℕ) → d < 16 → nat_lt (digit_value (hex_digit d)) 16 ≡ true
digit_fits d below = agree_below_at (λ k. nat_lt (digit_value (hex_digit k)) 16) (λ k. true) 16 d refl below

pair_value : (high low : ℕ) (rest : List ℕ) → high < 16 → low < 16 → hex_value (hex_digit high ∷ hex_digit low ∷ rest) ≡ before ((16 * high + low) ∷ []) (hex_value rest)
pair_value high low rest one two =
    rw (digit_no_blank high one, digit_fits high one, digit_no_blank low two, digit_fits low two)
    (ap (λ (n : ℕ). before (n ∷ []) (hex_value rest)) (rw (digit_back high one, digit_back low two) refl))

byte_value : (byte : ℕ) (rest : List ℕ) → byte < 256 → hex_value (hex_byte byte ++ rest) ≡ before (byte ∷ []) (hex_value rest)
byte_value byte rest below =
    let whole : 16 * (byte / 16) + byte % 16 ≡ byte = omega arith in
    pair_value (byte / 16) (byte % 16) rest (omega arith) (omega arith) ∙ ap (λ (n : ℕ). before (n ∷ []) (hex_value rest)) whole

bytes_value : (text bytes : List ℕ) → AreBytes bytes → SpellsBytes text bytes → hex_value text ≡ Some bytes
bytes_value text [] all spells = ap hex_value (sym (append-nil text)) ∙ blanks_over text [] spells
bytes_value text (byte ∷ bytes) all spells =
    ap hex_value spells.3 ∙ blanks_over spells.0 (hex_byte byte ++ spells.1) spells.2 ∙ byte_value byte spells.1 all.0
    ∙ ap (before (byte ∷ [])) (bytes_value spells.1 bytes all.1 spells.4)

pub hex_bytes_back : (mark : Mark) (text bytes after : List ℕ) → AreBytes bytes → SpellsBytes text bytes
    → Next mark ((36 ∷ 34 ∷ (text ++ 34 ∷ [])) ++ after) (token_of mark (shapes.Text bytes)) after
hex_bytes_back mark text bytes after all spells = hex_back mark text bytes after (bytes_value text bytes all spells)
