-- Bytes that are written between quote marks are read back.
use Rattle.std.proofs.Common.{◌≡◌, ◌≢◌, ℕ, ◌+◌, ◌-◌, ◌/◌, ◌%◌, ◌<◌, ◌≤◌, true, false, List, [], ◌∷◌, ◌++◌, Some, length, refl, sym, ap, ◌∙◌, subst, arith, append_assoc, length-append}
use Rattle.std.specs.Prelude.{nat_lt, ◌==◌, ◌||◌}
use Rattle.std.specs.List.{flat_map}
use Rattle.std.proofs.lemmas.Bool.{agree_below_at, eqb-true, ne_eqb, ltb-true, lt-ltb, le-leb, eqb-false, eq-eqb}
use Rattle.std.proofs.Math.Seq.{take-append_seam}
use Rattle.rz_core.proofs.Table.{is_byte, same_byte}
use Rattle.rz_core.specs.Quoted.{hex_digit, shown_byte, quoted}
use Rattle.rz_core.specs.declared.fault.Mark.{Mark}
use Rattle.rz_lex.specs.Scan.{after_quote}
use Rattle.rz_lex.specs.Digits.{digits_value}
use Rattle.rz_lex.specs.Escape.{letter_escape, escape_at, text_value, before}
use Rattle.rz_lex.specs.Shape.{inside}
use Rattle.rz_lex.specs.Cutting.{Next}
use Rattle.rz_lex.specs.Printed.{AreBytes, token_of}
use Rattle.rz_lex.specs.declared.token.Shape.TheVariants as shapes
use Rattle.rz_core.proofs.Tests.{by_test}
use Rattle.rz_lex.proofs.Ends.{longest_read}

-- what reading asks of a quote mark
record IsMark (quote : ℕ) : Type 0 where
  below : quote < 48
  letter : letter_escape quote ≡ Some quote
  no_dollar : (quote == 36) ≡ false

hex_low : (digit : ℕ) → 48 ≤ hex_digit digit
hex_low digit = by_test (48 ≤ hex_digit digit) (nat_lt digit 10) (λ h. rw h (omega arith)) (λ h. rw h (omega arith))

hex_high : (digit : ℕ) → digit < 16 → hex_digit digit ≤ 70
hex_high digit small = by_test (hex_digit digit ≤ 70) (nat_lt digit 10) (λ h. rw h (let k = ltb-true digit 10 h in omega arith)) (λ h. rw h (omega arith))

-- bytes that do not end a quoted part

plain_on : (quote b : ℕ) (rest : List ℕ) → b ≢ quote → b ≢ 92 → after_quote quote (b ∷ rest) ≡ after_quote quote rest
plain_on quote b rest no_mark no_slash = rw (ne_eqb b quote no_mark, ne_eqb b 92 no_slash) refl

taken_on : (quote b : ℕ) (rest : List ℕ) → quote < 48 → after_quote quote (92 ∷ b ∷ rest) ≡ after_quote quote rest
taken_on quote b rest below = rw (ne_eqb 92 quote (λ e. omega (arith, e))) refl

hex_on : (quote x y : ℕ) (rest : List ℕ) → quote < 48 → 48 ≤ x → x ≤ 70 → 48 ≤ y → y ≤ 70 → after_quote quote (92 ∷ 48 ∷ 120 ∷ x ∷ y ∷ rest) ≡ after_quote quote rest
hex_on quote x y rest below a b c d =
    taken_on quote 48 (120 ∷ x ∷ y ∷ rest) below
    ∙ plain_on quote 120 (x ∷ y ∷ rest) (λ e. omega (arith, e)) (λ e. omega (arith, e))
    ∙ plain_on quote x (y ∷ rest) (λ e. omega (arith, e)) (λ e. omega (arith, e))
    ∙ plain_on quote y rest (λ e. omega (arith, e)) (λ e. omega (arith, e))

-- the two hex digits of each byte: a test of 256 numbers

two_digits : (byte : ℕ) → byte < 256 → digits_value 16 (hex_digit (byte / 16) ∷ hex_digit (byte % 16) ∷ []) ≡ Some byte
two_digits byte below = same_byte (digits_value 16 (hex_digit (byte / 16) ∷ hex_digit (byte % 16) ∷ [])) byte
    (agree_below_at (λ x. is_byte (digits_value 16 (hex_digit (x / 16) ∷ hex_digit (x % 16) ∷ [])) x) (λ x. true) 256 byte refl below)

hex_read : (byte x y : ℕ) (rest : List ℕ) → byte < 256 → digits_value 16 (x ∷ y ∷ []) ≡ Some byte → escape_at (48 ∷ 120 ∷ x ∷ y ∷ rest) ≡ Some (byte, 4)
hex_read byte x y rest below is = rw (le-leb 2 (length (x ∷ y ∷ rest)) (omega arith), is, lt-ltb byte 256 below) refl

escape_on : (byte size : ℕ) (bs : List ℕ) → escape_at bs ≡ Some (byte, size) → text_value 0 (92 ∷ bs) ≡ before (byte ∷ []) (text_value size bs)
escape_on byte size bs is = rw is refl

-- the text of one byte does not end its part, and is read as the byte
record IsBack (quote byte : ℕ) (text : List ℕ) : Type 0 where
  goes_on : (rest : List ℕ) → after_quote quote (text ++ rest) ≡ after_quote quote rest
  value : (rest : List ℕ) → text_value 0 (text ++ rest) ≡ before (byte ∷ []) (text_value 0 rest)

escaped_back : (quote b : ℕ) → quote < 48 → letter_escape b ≡ Some b → (b == 48) ≡ false → (b == 36) ≡ false → IsBack quote b (92 ∷ b ∷ [])
escaped_back quote b below letter no_zero no_dollar = record {
  goes_on = λ rest. taken_on quote b rest below;
  value = λ rest. escape_on b 1 (b ∷ rest) (rw (no_zero, no_dollar, letter) refl);
}

plain_back : (quote b : ℕ) → b ≢ quote → b ≢ 92 → IsBack quote b (b ∷ [])
plain_back quote b no_mark no_slash = record {
  goes_on = λ rest. plain_on quote b rest no_mark no_slash;
  value = λ rest. rw (ne_eqb b 92 no_slash) refl;
}

hex_back : (quote b : ℕ) → quote < 48 → b < 256 → IsBack quote b (92 ∷ 48 ∷ 120 ∷ hex_digit (b / 16) ∷ hex_digit (b % 16) ∷ [])
hex_back quote b below byte = record {
  goes_on = λ rest. hex_on quote (hex_digit (b / 16)) (hex_digit (b % 16)) rest below (hex_low (b / 16)) (hex_high (b / 16) (omega arith)) (hex_low (b % 16)) (hex_high (b % 16) (omega arith));
  value = λ rest. escape_on b 4 (48 ∷ 120 ∷ hex_digit (b / 16) ∷ hex_digit (b % 16) ∷ rest) (hex_read b (hex_digit (b / 16)) (hex_digit (b % 16)) rest byte (two_digits b byte));
}

marked_back : (quote b : ℕ) → IsMark quote → (b == quote || b == 92) ≡ true → IsBack quote b (92 ∷ b ∷ [])
marked_back quote b mark is = by_test (IsBack quote b (92 ∷ b ∷ [])) (b == quote)
    (λ e. let same : quote ≡ b = sym (eqb-true b quote e) in subst (λ (x : ℕ). IsBack quote x (92 ∷ x ∷ [])) same (escaped_back quote quote mark.below mark.letter (ne_eqb quote 48 (λ z. omega (arith, z, mark.below))) mark.no_dollar))
    (λ e. let slash : (b == 92) ≡ true = rw e at is in let same : 92 ≡ b = sym (eqb-true b 92 slash) in subst (λ (x : ℕ). IsBack quote x (92 ∷ x ∷ [])) same (escaped_back quote 92 mark.below refl refl refl))

unmarked_back : (quote b : ℕ) → (b == quote || b == 92) ≡ false → IsBack quote b (b ∷ [])
unmarked_back quote b is = by_test (IsBack quote b (b ∷ [])) (b == quote)
    (λ e. let never : true ≡ false = rw e at is in absurd cc)
    (λ e. let slash : (b == 92) ≡ false = rw e at is in plain_back quote b (λ same. eqb-false b quote e same) (λ same. eqb-false b 92 slash same))

byte_back : (quote b : ℕ) → IsMark quote → b < 256 → IsBack quote b (shown_byte quote b)
byte_back quote b mark byte = by_test (IsBack quote b (shown_byte quote b)) (nat_lt b 32 || nat_lt 126 b)
    (λ e. rw e (hex_back quote b mark.below byte))
    (λ e. by_test (IsBack quote b (shown_byte quote b)) (b == quote || b == 92)
    (λ f. rw (e, f) (marked_back quote b mark f))
    (λ f. rw (e, f) (unmarked_back quote b f)))

-- all bytes

on_to_mark : (quote : ℕ) (bs after : List ℕ) → IsMark quote → AreBytes bs → after_quote quote (flat_map (shown_byte quote) bs ++ quote ∷ after) ≡ Some after
on_to_mark quote [] after mark bytes = rw (eq-eqb quote quote refl) refl
on_to_mark quote (b ∷ bs) after mark bytes =
    ap (after_quote quote) (append_assoc (shown_byte quote b) (flat_map (shown_byte quote) bs) (quote ∷ after))
    ∙ (byte_back quote b mark bytes.0).goes_on (flat_map (shown_byte quote) bs ++ quote ∷ after)
    ∙ on_to_mark quote bs after mark bytes.1

value_back : (quote : ℕ) (bs : List ℕ) → IsMark quote → AreBytes bs → text_value 0 (flat_map (shown_byte quote) bs) ≡ Some bs
value_back quote [] mark bytes = refl
value_back quote (b ∷ bs) mark bytes = (byte_back quote b mark bytes.0).value (flat_map (shown_byte quote) bs) ∙ ap (before (b ∷ [])) (value_back quote bs mark bytes.1)

inside_is : (quote : ℕ) (text : List ℕ) → inside 1 (quote ∷ (text ++ quote ∷ [])) ≡ text
inside_is quote text =
    let size : length (quote ∷ (text ++ quote ∷ [])) - (1 + 1) ≡ length text = omega (arith, length-append text (quote ∷ [])) in
    rw size (take-append_seam text (quote ∷ []))

inside_back : (quote : ℕ) (bs : List ℕ) → IsMark quote → AreBytes bs → text_value 0 (inside 1 (quoted quote bs)) ≡ Some bs
inside_back quote bs mark bytes = ap (text_value 0) (inside_is quote (flat_map (shown_byte quote) bs)) ∙ value_back quote bs mark bytes

on_to_end : (quote : ℕ) (bs after : List ℕ) → IsMark quote → AreBytes bs → after_quote quote ((flat_map (shown_byte quote) bs ++ quote ∷ []) ++ after) ≡ Some after
on_to_end quote bs after mark bytes = ap (after_quote quote) (append_assoc (flat_map (shown_byte quote) bs) (quote ∷ []) after) ∙ on_to_mark quote bs after mark bytes

text_mark : IsMark 34
text_mark = record { below = omega arith; letter = refl; no_dollar = refl }

literal_mark : IsMark 39
literal_mark = record { below = omega arith; letter = refl; no_dollar = refl }

pub text_back : (mark : Mark) (bs after : List ℕ) → AreBytes bs → Next mark (quoted 34 bs ++ after) (token_of mark (shapes.Text bs)) after
text_back mark bs after bytes = record {
  lexeme = quoted 34 bs;
  longest = longest_read (quoted 34 bs ++ after) (quoted 34 bs) after refl (on_to_end 34 bs after text_mark bytes);
  shape = rw (inside_back 34 bs text_mark bytes) refl;
  place = refl;
}

pub literal_back : (mark : Mark) (bs after : List ℕ) → AreBytes bs → 0 < length bs → length bs ≤ 4 → Next mark (quoted 39 bs ++ after) (token_of mark (shapes.Literal bs)) after
literal_back mark bs after bytes some few = record {
  lexeme = quoted 39 bs;
  longest = longest_read (quoted 39 bs ++ after) (quoted 39 bs) after refl (on_to_end 39 bs after literal_mark bytes);
  shape = rw (inside_back 39 bs literal_mark bytes, lt-ltb 0 (length bs) some, le-leb (length bs) 4 few) refl;
  place = refl;
}
