-- What is written stands inside a line.
use Rattle.std.proofs.Common.{◌≡◌, ◌≢◌, ℕ, zero, suc, ◌/◌, ◌%◌, ◌<◌, ◌≤◌, ◌^◌, Bool, true, false, List, [], ◌∷◌, ◌++◌, length, refl, sym, ap, subst, ◌∙◌, arith, append_assoc}
use Rattle.std.specs.Prelude.{◌+◌, ◌==◌, ◌&&◌, not, if◌then◌else◌}
use Rattle.std.specs.List.{flat_map}
use Rattle.std.proofs.lemmas.Bool.{agree_below_at, and_parts, eq-eqb, eqb-true, false≢true}
use Rattle.std.proofs.lemmas.Fmt.{decimal_by_steps}
use Rattle.rz_core.proofs.Tests.{by_test}
use Rattle.rz_core.specs.Decimal.{decimal_of}
use Rattle.rz_core.specs.Lists.{with_front}
use Rattle.rz_core.specs.Quoted.{hex_byte, hex_digit, quoted, shown_byte}
use Rattle.rz_lex.specs.Classes.{is_digit, is_letter, is_word_byte, AreBlanks}
use Rattle.rz_lex.specs.Extent.{are_word_bytes, ends_dollar_word}
use Rattle.rz_lex.specs.Page.{AreInLine}
use Rattle.rz_lex.specs.Printed.{is_dollar_word, is_word, AreBytes}
use Rattle.rz_lex.specs.Spelled.{digits_of, SpellsBytes}
use Rattle.rz_show_lines.specs.Written.{group_gap, grouped_byte, in_groups}

abbrev in_line : ℕ → Bool
in_line byte = not (byte == 10) && not (byte == 13)

abbrev are_in_line : List ℕ → Bool
are_in_line [] = true
are_in_line (b ∷ bytes) = in_line b && are_in_line bytes

is_not : (byte other : ℕ) → not (byte == other) ≡ true → byte ≢ other
is_not byte other h e = false≢true (ap not (sym (eq-eqb byte other e)) ∙ h)

pub inside : (bytes : List ℕ) → are_in_line bytes ≡ true → AreInLine bytes
inside [] h = tt
inside (b ∷ bytes) h =
    let parts = and_parts (not (b == 10) && not (b == 13)) (are_in_line bytes) h in
    let both = and_parts (not (b == 10)) (not (b == 13)) parts.0 in
    ((is_not b 10 both.0, is_not b 13 both.1), inside bytes parts.1)

pub inside_both : (front back : List ℕ) → AreInLine front → AreInLine back → AreInLine (front ++ back)
inside_both [] back first second = second
inside_both (b ∷ front) back first second = (first.0, inside_both front back first.1 second)

-- Words.

word_byte : (b : ℕ) → is_word_byte b ≡ true → (b ≢ 10) × (b ≢ 13)
word_byte b h = (λ e. clash 10 e refl, λ e. clash 13 e refl)
  where
    clash : (x : ℕ) → b ≡ x → is_word_byte x ≡ false → ⊥
    clash x e wrong = false≢true (sym wrong ∙ ap is_word_byte (sym e) ∙ h)

word_bytes : (bytes : List ℕ) → are_word_bytes bytes ≡ true → AreInLine bytes
word_bytes [] h = tt
word_bytes (b ∷ bytes) h = let parts = and_parts (is_word_byte b) (are_word_bytes bytes) h in (word_byte b parts.0, word_bytes bytes parts.1)

letter_byte : (b : ℕ) → is_letter b ≡ true → (b ≢ 10) × (b ≢ 13)
letter_byte b h = (λ e. clash 10 e refl, λ e. clash 13 e refl)
  where
    clash : (x : ℕ) → b ≡ x → is_letter x ≡ false → ⊥
    clash x e wrong = false≢true (sym wrong ∙ ap is_letter (sym e) ∙ h)

dollar_bytes : (bytes : List ℕ) → is_dollar_word bytes ≡ true → AreInLine bytes
dollar_bytes [] h = tt
dollar_bytes (b ∷ bytes) h =
    let parts = and_parts (b == 36) (ends_dollar_word bytes) h in
    (subst (λ (x : ℕ). (x ≢ 10) × (x ≢ 13)) (sym (eqb-true b 36 parts.0)) (λ e. absurd cc, λ e. absurd cc), go bytes parts.1)
  where
    go : (bytes : List ℕ) → ends_dollar_word bytes ≡ true → AreInLine bytes
    go [] h = tt
    go (b ∷ bytes) h = let parts = and_parts (is_letter b) (are_word_bytes bytes) h in (letter_byte b parts.0, word_bytes bytes parts.1)

pub word_inside : (bytes : List ℕ) → is_word bytes ≡ true → AreInLine bytes
word_inside [] h = tt
word_inside (b ∷ bytes) h = by_test (AreInLine (b ∷ bytes)) (b == 36)
    (λ k. (subst (λ (x : ℕ). (x ≢ 10) × (x ≢ 13)) (sym (eqb-true b 36 k)) (λ e. absurd cc, λ e. absurd cc), dollar_bytes bytes (rw k at h)))
    (λ k. let parts = and_parts (is_word_byte b && not (is_digit b)) (are_word_bytes bytes) (rw k at h) in
    (word_byte b (and_parts (is_word_byte b) (not (is_digit b)) parts.0).0, word_bytes bytes parts.1))

-- Numbers.

pub decimal_inside : (n : ℕ) → n < 2 ^ 32 → AreInLine (decimal_of n)
unfolding decimal_of
decimal_inside n below = decimal_by_steps (λ n digits. AreInLine digits) (λ n small. digit n small)
    (λ n digits some so_far. inside_both digits ((48 + n % 10) ∷ []) so_far (digit (n % 10) (omega arith))) n (omega arith)
  where
    digit : (n : ℕ) → n < 10 → AreInLine ((48 + n) ∷ [])
    digit n small = inside ((48 + n) ∷ []) (agree_below_at (λ x. are_in_line ((48 + x) ∷ [])) (λ x. true) 10 n refl small)

digit_inside : (d : ℕ) → d < 16 → AreInLine (hex_digit d ∷ [])
digit_inside d small = inside (hex_digit d ∷ []) (agree_below_at (λ x. are_in_line (hex_digit x ∷ [])) (λ x. true) 16 d refl small)

pub digits_inside : (base count n : ℕ) → 0 < base → base ≤ 16 → AreInLine (digits_of base count n)
digits_inside base zero n some most = tt
digits_inside base (suc count) n some most =
    let small : n % base < base = omega arith in
    inside_both (digits_of base count (n / base)) (hex_digit (n % base) ∷ []) (digits_inside base count (n / base) some most) (digit_inside (n % base) (omega (arith, small, most)))

-- Quoted bytes.

quoted_inside : (mark : ℕ) → are_in_line (mark ∷ []) ≡ true → ((byte : ℕ) → byte < 256 → are_in_line (shown_byte mark byte) ≡ true)
    → (bytes : List ℕ) → AreBytes bytes → AreInLine (quoted mark bytes)
quoted_inside mark outer each bytes small = ((inside (mark ∷ []) outer).0, all bytes small)
  where
    all : (bytes : List ℕ) → AreBytes bytes → AreInLine (flat_map (shown_byte mark) bytes ++ mark ∷ [])
    all [] small = inside (mark ∷ []) outer
    all (b ∷ bytes) small =
        subst AreInLine (sym (append_assoc (shown_byte mark b) (flat_map (shown_byte mark) bytes) (mark ∷ [])))
        (inside_both (shown_byte mark b) (flat_map (shown_byte mark) bytes ++ mark ∷ []) (inside (shown_byte mark b) (each b small.0)) (all bytes small.1))

shown_in_text : (byte : ℕ) → byte < 256 → are_in_line (shown_byte 34 byte) ≡ true
shown_in_text byte small = agree_below_at (λ x. are_in_line (shown_byte 34 x)) (λ x. true) 256 byte refl small

shown_in_literal : (byte : ℕ) → byte < 256 → are_in_line (shown_byte 39 byte) ≡ true
shown_in_literal byte small = agree_below_at (λ x. are_in_line (shown_byte 39 x)) (λ x. true) 256 byte refl small

pub text_inside : (bytes : List ℕ) → AreBytes bytes → AreInLine (quoted 34 bytes)
text_inside bytes small = quoted_inside 34 refl shown_in_text bytes small

pub literal_inside : (bytes : List ℕ) → AreBytes bytes → AreInLine (quoted 39 bytes)
literal_inside bytes small = quoted_inside 39 refl shown_in_literal bytes small

-- Bytes in hexadecimal.

-- a choice keeps what both have
either : (P : List ℕ → Type 0) (b : Bool) (x y : List ℕ) → P x → P y → P (if b then x else y)
either P true x y first second = first
either P false x y first second = second

gap_blank : (k : ℕ) → AreBlanks (group_gap k)
gap_blank k = either AreBlanks (k == 0) _ _ tt (either AreBlanks (k % 2 == 0) _ _ (refl, tt) tt)

gap_inside : (k : ℕ) → AreInLine (group_gap k)
gap_inside k = either AreInLine (k == 0) _ _ tt (either AreInLine (k % 2 == 0) _ _ (inside (32 ∷ []) refl) tt)

pub byte_inside : (byte : ℕ) → byte < 256 → AreInLine (hex_byte byte)
byte_inside byte small = inside (hex_byte byte) (agree_below_at (λ x. are_in_line (hex_byte x)) (λ x. true) 256 byte refl small)

spells_from : (front bytes : List ℕ) → SpellsBytes (with_front grouped_byte front bytes) bytes
spells_from front [] = tt
spells_from front (b ∷ bytes) =
    let rest = with_front grouped_byte (front ++ b ∷ []) bytes in
    (group_gap (length front), rest, gap_blank (length front), append_assoc (group_gap (length front)) (hex_byte b) rest, spells_from (front ++ b ∷ []) bytes)

pub groups_spell : (bytes : List ℕ) → SpellsBytes (in_groups bytes) bytes
groups_spell bytes = spells_from [] bytes

inside_from : (front bytes : List ℕ) → AreBytes bytes → AreInLine (with_front grouped_byte front bytes)
inside_from front [] small = tt
inside_from front (b ∷ bytes) small =
    inside_both (grouped_byte front b) (with_front grouped_byte (front ++ b ∷ []) bytes) (inside_both (group_gap (length front)) (hex_byte b) (gap_inside (length front)) (byte_inside b small.0))
    (inside_from (front ++ b ∷ []) bytes small.1)

pub hex_inside : (bytes : List ℕ) → AreBytes bytes → AreInLine (36 ∷ 34 ∷ (in_groups bytes ++ 34 ∷ []))
hex_inside bytes small =
    inside_both (36 ∷ 34 ∷ []) (in_groups bytes ++ 34 ∷ []) (inside (36 ∷ 34 ∷ []) refl) (inside_both (in_groups bytes) (34 ∷ []) (inside_from [] bytes small) (inside (34 ∷ []) refl))
