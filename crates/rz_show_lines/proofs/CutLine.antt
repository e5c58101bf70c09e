-- A line that is written is cut into its tokens.
use Rattle.std.proofs.Common.{◌≡◌, ◌⊎◌, inl, inr, ℕ, zero, suc, ◌/◌, ◌%◌, ◌<◌, ◌≤◌, ◌^◌, Bool, true, false, List, [], ◌∷◌, ◌++◌, map, length, Some, refl, subst, arith}
use Rattle.std.specs.Prelude.{◌==◌, ◌&&◌, not}
use Rattle.std.specs.List.{AllByRecursion}
use Rattle.std.proofs.lemmas.Bool.{and_parts}
use Rattle.rz_core.proofs.Tests.{by_test}
use Rattle.rz_core.specs.Decimal.{decimal_of}
use Rattle.rz_core.specs.Quoted.{hex_byte, hex_digit, quoted}
use Rattle.rz_core.specs.declared.fault.Mark.{Mark}
use Rattle.rz_lex.specs.Classes.{is_blank, is_digit}
use Rattle.rz_lex.specs.Cutting.{Cuts, Next}
use Rattle.rz_lex.specs.Digits.{number_value}
use Rattle.rz_lex.specs.Extent.{are_word_bytes}
use Rattle.rz_lex.specs.Page.{is_slash, AreInLine}
use Rattle.rz_lex.specs.Printed.{begins_word, goes_on, is_word, token_of, word_of, AreBytes}
use Rattle.rz_lex.specs.Sign.{is_sign, sign_text}
use Rattle.rz_lex.specs.Spelled.{digits_of, SpellsBytes}
use Rattle.rz_lex.specs.declared.sign.Sign.{Sign}
use Rattle.rz_lex.specs.declared.sign.Sign.TheVariants as signs
use Rattle.rz_lex.specs.declared.token.Shape.{Shape}
use Rattle.rz_lex.specs.declared.token.Shape.TheVariants as shapes
use Rattle.rz_lex.specs.declared.token.Token.{Token}
use Rattle.rz_show_lines.specs.Page.{IsPrinted}
use Rattle.rz_show_lines.specs.Written.{a_binary, a_blank, a_hex, a_hex_byte, a_hex_text, a_literal, a_number, a_sign, a_text, a_word, an_octal, are_apart, begins_wordy, in_groups, is_bare, is_wordy, line_shapes, line_text, octal_count, IsWritten, Written}
use Rattle.rz_show_lines.proofs.Inside.{byte_inside, decimal_inside, digits_inside, groups_spell, hex_inside, inside, inside_both, literal_inside, text_inside, word_inside}
use Rattle.rz_show_lines.proofs.Octal.{octal_few, octal_is}

-- tokens that are written are cut back
pub record CutBack : Type 0 where
  pub word : (mark : Mark) (word after : List ℕ) → is_word word ≡ true → length word ≤ 255 → begins_word after ≡ false
      → Next mark (word ++ after) (token_of mark (word_of word)) after
  pub number : (mark : Mark) (number : ℕ) (after : List ℕ) → number < 2 ^ 32 → begins_word after ≡ false
      → Next mark (decimal_of number ++ after) (token_of mark (shapes.Number number)) after
  pub spelled : (mark : Mark) (digit : ℕ) (digits after : List ℕ) (number : ℕ)
      → is_digit digit ≡ true → are_word_bytes digits ≡ true → length (digit ∷ digits) ≤ 255
      → number_value (digit ∷ digits) ≡ Some number → begins_word after ≡ false
      → Next mark ((digit ∷ digits) ++ after) (token_of mark (shapes.Number number)) after
  pub literal : (mark : Mark) (bytes after : List ℕ) → AreBytes bytes → 0 < length bytes → length bytes ≤ 4
      → Next mark (quoted 39 bytes ++ after) (token_of mark (shapes.Literal bytes)) after
  pub text : (mark : Mark) (bytes after : List ℕ) → AreBytes bytes → Next mark (quoted 34 bytes ++ after) (token_of mark (shapes.Text bytes)) after
  pub octal : (mark : Mark) (count number : ℕ) (after : List ℕ) → 0 < count → count ≤ 254 → number < 2 ^ 32 → number < 8 ^ count → begins_word after ≡ false
      → Next mark ((48 ∷ digits_of 8 count number) ++ after) (token_of mark (shapes.Number number)) after
  pub hexadecimal : (mark : Mark) (letter count number : ℕ) (after : List ℕ) → (letter ≡ 120) ⊎ (letter ≡ 88) → 0 < count → count ≤ 253 → number < 2 ^ 32 → number < 16 ^ count
      → begins_word after ≡ false → Next mark ((48 ∷ letter ∷ digits_of 16 count number) ++ after) (token_of mark (shapes.Number number)) after
  pub binary : (mark : Mark) (letter count number : ℕ) (after : List ℕ) → (letter ≡ 98) ⊎ (letter ≡ 66) → 0 < count → count ≤ 253 → number < 2 ^ 32 → number < 2 ^ count
      → begins_word after ≡ false → Next mark ((48 ∷ letter ∷ digits_of 2 count number) ++ after) (token_of mark (shapes.Number number)) after
  pub dollar_digits : (mark : Mark) (count number : ℕ) (after : List ℕ) → 0 < count → count ≤ 254 → number < 2 ^ 32 → number < 16 ^ count → begins_word after ≡ false
      → Next mark ((36 ∷ digits_of 16 count number) ++ after) (token_of mark (shapes.Number number)) after
  pub hex_bytes : (mark : Mark) (text bytes after : List ℕ) → AreBytes bytes → SpellsBytes text bytes
      → Next mark ((36 ∷ 34 ∷ (text ++ 34 ∷ [])) ++ after) (token_of mark (shapes.Text bytes)) after
  pub sign : (mark : Mark) (sign : Sign) (after : List ℕ) → goes_on (sign_text sign) after ≡ false
      → Next mark (sign_text sign ++ after) (token_of mark (shapes.Sign sign)) after
  pub empty : (mark : Mark) → Cuts mark [] []
  pub token : (mark : Mark) (line after : List ℕ) (token : Token) (tokens : List Token) → Next mark line token after → Cuts mark after tokens → Cuts mark line (token ∷ tokens)
  pub blank : (mark : Mark) (blank : ℕ) (line : List ℕ) (tokens : List Token) → is_blank blank ≡ true → Cuts mark line tokens → Cuts mark (blank ∷ line) tokens

-- a byte with which no sign of two bytes begins
alone : (a : ℕ) → (a == 60) ≡ false → (a == 62) ≡ false → (a == 61) ≡ false → (a == 33) ≡ false → (a == 38) ≡ false → (a == 124) ≡ false
    → (text : List ℕ) → goes_on (a ∷ []) text ≡ false
alone a p q r s t u [] = refl
alone a p q r s t u (b ∷ text) = by_test (is_sign (a ∷ b ∷ []) ≡ false) (b == 61)
    (λ h. rw (h, p, q, r, s) refl)
    (λ h. by_test (is_sign (a ∷ b ∷ []) ≡ false) (a == b) (λ k. rw (h, k, p, q, t, u) refl) (λ k. rw (h, k) refl))

record IsAlone (sign : Sign) : Type 0 where
  bare : is_slash (shapes.Sign sign) ≡ false
  in_line : AreInLine (sign_text sign)
  ends : (text : List ℕ) → goes_on (sign_text sign) text ≡ false

sign_alone : (sign : Sign) → is_bare sign ≡ true → IsAlone sign
sign_alone signs.OpenBrace h = record { bare = refl; in_line = inside (123 ∷ []) refl; ends = alone 123 refl refl refl refl refl refl }
sign_alone signs.CloseBrace h = record { bare = refl; in_line = inside (125 ∷ []) refl; ends = alone 125 refl refl refl refl refl refl }
sign_alone signs.OpenParen h = record { bare = refl; in_line = inside (40 ∷ []) refl; ends = alone 40 refl refl refl refl refl refl }
sign_alone signs.CloseParen h = record { bare = refl; in_line = inside (41 ∷ []) refl; ends = alone 41 refl refl refl refl refl refl }
sign_alone signs.Semicolon h = record { bare = refl; in_line = inside (59 ∷ []) refl; ends = alone 59 refl refl refl refl refl refl }
sign_alone signs.Comma h = record { bare = refl; in_line = inside (44 ∷ []) refl; ends = alone 44 refl refl refl refl refl refl }
sign_alone signs.Minus h = record { bare = refl; in_line = inside (45 ∷ []) refl; ends = alone 45 refl refl refl refl refl refl }
sign_alone sign h = absurd cc

-- no word goes on after a line that doesn't begin with one
sign_begins : (sign : Sign) (text : List ℕ) → is_bare sign ≡ true → begins_word (sign_text sign ++ text) ≡ false
sign_begins signs.OpenBrace text h = refl
sign_begins signs.CloseBrace text h = refl
sign_begins signs.OpenParen text h = refl
sign_begins signs.CloseParen text h = refl
sign_begins signs.Semicolon text h = refl
sign_begins signs.Comma text h = refl
sign_begins signs.Minus text h = refl
sign_begins sign text h = absurd cc

clear : (line : List Written) → AllByRecursion IsWritten line → begins_wordy line ≡ false → begins_word (line_text line) ≡ false
clear [] all h = refl
clear (a_word bytes ∷ line) all h = absurd cc
clear (a_number n ∷ line) all h = absurd cc
clear (a_hex digits n ∷ line) all h = absurd cc
clear (an_octal n ∷ line) all h = absurd cc
clear (a_binary digits n ∷ line) all h = absurd cc
clear (a_hex_byte byte ∷ line) all h = absurd cc
clear (a_literal bytes ∷ line) all h = refl
clear (a_text bytes ∷ line) all h = refl
clear (a_hex_text bytes ∷ line) all h = refl
clear (a_sign sign ∷ line) all h = sign_begins sign (line_text line) all.0
clear (a_blank ∷ line) all h = refl

not_both : (a b : Bool) → not (a && b) ≡ true → a ≡ true → b ≡ false
not_both true false h e = refl
not_both true true h e = absurd cc
not_both false b h e = absurd cc

module _ (law : CutBack) where
  -- a token in front, as it is written
  token : (written text : List ℕ) (shape : Shape) (tokens : List Shape) → AreInLine written → is_slash shape ≡ false
      → ((mark : Mark) → Next mark (written ++ text) (token_of mark shape) text) → IsPrinted text tokens → IsPrinted (written ++ text) (shape ∷ tokens)
  token written text shape tokens at bare next p = record {
    inside = inside_both written text at p.inside;
    cut = λ mark. law.token mark (written ++ text) text (token_of mark shape) (map (token_of mark) tokens) (next mark) (p.cut mark);
    bare = λ mark. rw bare (p.bare mark);
  }

  -- an octal number is `0` alone, or has digits
  octal_next : (mark : Mark) (count n : ℕ) (after : List ℕ) → count ≤ 11 → n < 2 ^ 32 → n < 8 ^ count → begins_word after ≡ false
      → Next mark ((48 ∷ digits_of 8 count n) ++ after) (token_of mark (shapes.Number n)) after
  octal_next mark zero n after few below small ends =
      let none : 0 ≡ n = omega (arith, small) in
      subst (λ (x : ℕ). Next mark ((48 ∷ []) ++ after) (token_of mark (shapes.Number x)) after) none (law.spelled mark 48 [] after 0 refl refl (omega arith) refl ends)
  octal_next mark (suc count) n after few below small ends = law.octal mark (suc count) n after (omega arith) (omega (arith, few)) below small ends

  -- a byte in two hex digits
  byte_next : (mark : Mark) (byte : ℕ) (after : List ℕ) → byte < 256 → begins_word after ≡ false
      → Next mark ((36 ∷ hex_byte byte) ++ after) (token_of mark (shapes.Number byte)) after
  byte_next mark byte after small ends =
      let high : byte / 16 % 16 ≡ byte / 16 = omega (arith, small) in
      subst (λ (x : ℕ). Next mark ((36 ∷ hex_digit x ∷ hex_digit (byte % 16) ∷ []) ++ after) (token_of mark (shapes.Number byte)) after) high
      (law.dollar_digits mark 2 byte after (omega arith) (omega arith) (omega (arith, small)) (omega (arith, small)) ends)

  -- a line whose words and numbers stand apart
  pub line_printed : (line : List Written) → AllByRecursion IsWritten line → are_apart line ≡ true → IsPrinted (line_text line) (line_shapes line)
  line_printed [] all apart = record { inside = tt; cut = λ mark. law.empty mark; bare = λ mark. refl }
  line_printed (one ∷ line) all apart =
      let parts = and_parts (not (is_wordy one && begins_wordy line)) (are_apart line) apart in
      go one all.0 (λ e. clear line all.1 (not_both (is_wordy one) (begins_wordy line) parts.0 e)) (line_printed line all.1 parts.1)
    where
      go : (one : Written) → IsWritten one → (is_wordy one ≡ true → begins_word (line_text line) ≡ false) → IsPrinted (line_text line) (line_shapes line)
          → IsPrinted (line_text (one ∷ line)) (line_shapes (one ∷ line))
      go (a_word bytes) is ends p = token bytes (line_text line) (word_of bytes) (line_shapes line) (word_inside bytes is.0) refl (λ mark. law.word mark bytes (line_text line) is.0 is.1 (ends refl)) p
      go (a_number n) is ends p = token (decimal_of n) (line_text line) (shapes.Number n) (line_shapes line) (decimal_inside n is) refl (λ mark. law.number mark n (line_text line) is (ends refl)) p
      go (a_hex digits n) is ends p =
          token (48 ∷ 120 ∷ digits_of 16 digits n) (line_text line) (shapes.Number n) (line_shapes line)
          (inside_both (48 ∷ 120 ∷ []) (digits_of 16 digits n) (inside (48 ∷ 120 ∷ []) refl) (digits_inside 16 digits n (omega arith) (omega arith))) refl
          (λ mark. law.hexadecimal mark 120 digits n (line_text line) (inl refl) is.0 (omega (arith, is.1)) is.3 is.2 (ends refl)) p
      go (an_octal n) is ends p =
          token (48 ∷ digits_of 8 (octal_count n) n) (line_text line) (shapes.Number n) (line_shapes line)
          (inside_both (48 ∷ []) (digits_of 8 (octal_count n) n) (inside (48 ∷ []) refl) (digits_inside 8 (octal_count n) n (omega arith) (omega arith))) refl
          (λ mark. octal_next mark (octal_count n) n (line_text line) (octal_few n) is (octal_is n is) (ends refl)) p
      go (a_binary digits n) is ends p =
          token (48 ∷ 66 ∷ digits_of 2 digits n) (line_text line) (shapes.Number n) (line_shapes line)
          (inside_both (48 ∷ 66 ∷ []) (digits_of 2 digits n) (inside (48 ∷ 66 ∷ []) refl) (digits_inside 2 digits n (omega arith) (omega arith))) refl
          (λ mark. law.binary mark 66 digits n (line_text line) (inr refl) is.0 (omega (arith, is.1)) is.3 is.2 (ends refl)) p
      go (a_hex_byte byte) is ends p =
          token (36 ∷ hex_byte byte) (line_text line) (shapes.Number byte) (line_shapes line)
          (inside_both (36 ∷ []) (hex_byte byte) (inside (36 ∷ []) refl) (byte_inside byte is)) refl (λ mark. byte_next mark byte (line_text line) is (ends refl)) p
      go (a_literal bytes) is ends p =
          token (quoted 39 bytes) (line_text line) (shapes.Literal bytes) (line_shapes line) (literal_inside bytes is.0) refl (λ mark. law.literal mark bytes (line_text line) is.0 is.1 is.2) p
      go (a_text bytes) is ends p = token (quoted 34 bytes) (line_text line) (shapes.Text bytes) (line_shapes line) (text_inside bytes is) refl (λ mark. law.text mark bytes (line_text line) is) p
      go (a_hex_text bytes) is ends p =
          token (36 ∷ 34 ∷ (in_groups bytes ++ 34 ∷ [])) (line_text line) (shapes.Text bytes) (line_shapes line) (hex_inside bytes is) refl
          (λ mark. law.hex_bytes mark (in_groups bytes) bytes (line_text line) is (groups_spell bytes)) p
      go (a_sign sign) is ends p =
          let one = sign_alone sign is in
          token (sign_text sign) (line_text line) (shapes.Sign sign) (line_shapes line) one.in_line one.bare (λ mark. law.sign mark sign (line_text line) (one.ends (line_text line))) p
      go a_blank is ends p = record {
        inside = ((λ e. absurd cc, λ e. absurd cc), p.inside);
        cut = λ mark. law.blank mark 32 (line_text line) (map (token_of mark) (line_shapes line)) refl (p.cut mark);
        bare = p.bare;
      }
