-- Numbers and texts in hex digits that are written are read back.
use Rattle.std.proofs.Common.{◌≡◌, ◌≢◌, ℕ, ◌+◌, ◌-◌, ◌≤◌, true, false, List, [], ◌∷◌, ◌++◌, Option, Some, None, Ok, length, refl, sym, ap, ◌∙◌, arith, append_assoc, length-append}
use Rattle.std.specs.Prelude.{nat_lt, ◌*◌}
use Rattle.std.proofs.lemmas.Bool.{false≢true, ne_eqb, le-ltb}
use Rattle.std.proofs.Math.Seq.{take-append_seam}
use Rattle.rz_core.specs.declared.fault.Mark.{Mark}
use Rattle.rz_lex.specs.Classes.{is_blank, is_hex_digit}
use Rattle.rz_lex.specs.Cutting.{Next}
use Rattle.rz_lex.specs.Digits.{digit_value, number_value}
use Rattle.rz_lex.specs.Escape.{before}
use Rattle.rz_lex.specs.Extent.{are_word_bytes}
use Rattle.rz_lex.specs.Hex.{hex_value, hex_behind}
use Rattle.rz_lex.specs.Printed.{begins_word, token_of}
use Rattle.rz_lex.specs.Scan.{after_lexeme, after_quote}
use Rattle.rz_lex.specs.Shape.{inside, number_shape, shape_of}
use Rattle.rz_lex.specs.declared.token.Shape.TheVariants as shapes
use Rattle.rz_core.proofs.Tests.{by_test, none_some}
use Rattle.rz_lex.proofs.Ends.{longest_read}
use Rattle.rz_lex.proofs.WordsBack.{run_back}

-- A byte of a hex text is a blank or a digit, and so neither a quote mark nor a backslash.

plain_on : (b : ℕ) (rest : List ℕ) → b ≢ 34 → b ≢ 92 → after_quote 34 (b ∷ rest) ≡ after_quote 34 rest
plain_on b rest no_mark no_slash = rw (ne_eqb b 34 no_mark, ne_eqb b 92 no_slash) refl

blank_is_not : (x b : ℕ) → is_blank x ≡ false → is_blank b ≡ true → b ≢ x
blank_is_not x b other blank same = false≢true (sym other ∙ ap is_blank (sym same) ∙ blank)

digit_is_not : (x b : ℕ) → nat_lt (digit_value x) 16 ≡ false → nat_lt (digit_value b) 16 ≡ true → b ≢ x
digit_is_not x b other digit same = false≢true (sym other ∙ ap (λ (y : ℕ). nat_lt (digit_value y) 16) (sym same) ∙ digit)

goes_on : (front value : List ℕ) (more : Option (List ℕ)) → before front more ≡ Some value → (rest : List ℕ) × (more ≡ Some rest)
goes_on front value (Some rest) is = (rest, refl)
goes_on front value None is = absurd (none_some value is)

blank_first : (b : ℕ) (bs : List ℕ) → is_blank b ≡ true → hex_value (b ∷ bs) ≡ hex_value bs
blank_first b bs h = rw h refl

digit_first : (b : ℕ) (bs : List ℕ) → is_blank b ≡ false → nat_lt (digit_value b) 16 ≡ true → hex_value (b ∷ bs) ≡ hex_behind (digit_value b) bs
digit_first b bs h k = rw (h, k) refl

wrong_first : (b : ℕ) (bs : List ℕ) → is_blank b ≡ false → nat_lt (digit_value b) 16 ≡ false → hex_value (b ∷ bs) ≡ None
wrong_first b bs h k = rw (h, k) refl

blank_behind : (high b : ℕ) (bs : List ℕ) → is_blank b ≡ true → hex_behind high (b ∷ bs) ≡ hex_behind high bs
blank_behind high b bs h = rw h refl

digit_behind : (high b : ℕ) (bs : List ℕ) → is_blank b ≡ false → nat_lt (digit_value b) 16 ≡ true → hex_behind high (b ∷ bs) ≡ before ((16 * high + digit_value b) ∷ []) (hex_value bs)
digit_behind high b bs h k = rw (h, k) refl

wrong_behind : (high b : ℕ) (bs : List ℕ) → is_blank b ≡ false → nat_lt (digit_value b) 16 ≡ false → hex_behind high (b ∷ bs) ≡ None
wrong_behind high b bs h k = rw (h, k) refl

mutual
  hex_on : (text value after : List ℕ) → hex_value text ≡ Some value → after_quote 34 (text ++ 34 ∷ after) ≡ Some after
  hex_on [] value after is = refl
  hex_on (b ∷ bs) value after is = by_test (after_quote 34 ((b ∷ bs) ++ 34 ∷ after) ≡ Some after) (is_blank b)
      (λ h. plain_on b (bs ++ 34 ∷ after) (blank_is_not 34 b refl h) (blank_is_not 92 b refl h) ∙ hex_on bs value after (sym (blank_first b bs h) ∙ is))
      (λ h. by_test (after_quote 34 ((b ∷ bs) ++ 34 ∷ after) ≡ Some after) (nat_lt (digit_value b) 16)
      (λ k. plain_on b (bs ++ 34 ∷ after) (digit_is_not 34 b refl k) (digit_is_not 92 b refl k) ∙ behind_on (digit_value b) bs value after (sym (digit_first b bs h k) ∙ is))
      (λ k. absurd (none_some value (sym (wrong_first b bs h k) ∙ is))))

  behind_on : (high : ℕ) (text value after : List ℕ) → hex_behind high text ≡ Some value → after_quote 34 (text ++ 34 ∷ after) ≡ Some after
  behind_on high [] value after is = absurd (none_some value is)
  behind_on high (b ∷ bs) value after is = by_test (after_quote 34 ((b ∷ bs) ++ 34 ∷ after) ≡ Some after) (is_blank b)
      (λ h. plain_on b (bs ++ 34 ∷ after) (blank_is_not 34 b refl h) (blank_is_not 92 b refl h) ∙ behind_on high bs value after (sym (blank_behind high b bs h) ∙ is))
      (λ h. by_test (after_quote 34 ((b ∷ bs) ++ 34 ∷ after) ≡ Some after) (nat_lt (digit_value b) 16)
      (λ k. let rest = goes_on ((16 * high + digit_value b) ∷ []) value (hex_value bs) (sym (digit_behind high b bs h k) ∙ is) in
      plain_on b (bs ++ 34 ∷ after) (digit_is_not 34 b refl k) (digit_is_not 92 b refl k) ∙ hex_on bs rest.0 after rest.1)
      (λ k. absurd (none_some value (sym (wrong_behind high b bs h k) ∙ is))))

inside_is : (text : List ℕ) → inside 2 (36 ∷ 34 ∷ (text ++ 34 ∷ [])) ≡ text
inside_is text =
    let size : length (36 ∷ 34 ∷ (text ++ 34 ∷ [])) - (2 + 1) ≡ length text = omega (arith, length-append text (34 ∷ [])) in
    rw size (take-append_seam text (34 ∷ []))

-- hex digits and blanks between `$"` and `"`
pub hex_back : (mark : Mark) (text value after : List ℕ) → hex_value text ≡ Some value
    → Next mark ((36 ∷ 34 ∷ (text ++ 34 ∷ [])) ++ after) (token_of mark (shapes.Text value)) after
hex_back mark text value after is = record {
  lexeme = 36 ∷ 34 ∷ (text ++ 34 ∷ []);
  longest = longest_read ((36 ∷ 34 ∷ (text ++ 34 ∷ [])) ++ after) (36 ∷ 34 ∷ (text ++ 34 ∷ [])) after refl (ap (after_quote 34) (append_assoc text (34 ∷ []) after) ∙ hex_on text value after is);
  shape = rw (ap hex_value (inside_is text) ∙ is) refl;
  place = refl;
}

read_dollar : (d : ℕ) (ds after : List ℕ) → is_hex_digit d ≡ true → are_word_bytes ds ≡ true → begins_word after ≡ false → after_lexeme (36 ∷ d ∷ (ds ++ after)) ≡ Some after
read_dollar d ds after digit all clear = rw digit (ap (λ (x : List ℕ). Some x) (run_back ds after all clear))

not_quote : (d : ℕ) → is_hex_digit d ≡ true → d ≢ 34
not_quote d digit same = false≢true (ap is_hex_digit (sym same) ∙ digit)

not_dollar : (d : ℕ) → is_hex_digit d ≡ true → d ≢ 36
not_dollar d digit same = false≢true (ap is_hex_digit (sym same) ∙ digit)

dollar_number : (mark : Mark) (d : ℕ) (ds : List ℕ) → is_hex_digit d ≡ true → shape_of mark (36 ∷ d ∷ ds) ≡ number_shape mark (36 ∷ d ∷ ds)
dollar_number mark d ds digit = rw (ne_eqb d 34 (not_quote d digit), ne_eqb d 36 (not_dollar d digit)) refl

number_fits : (mark : Mark) (bs : List ℕ) (n : ℕ) → length bs ≤ 255 → number_value bs ≡ Some n → number_shape mark bs ≡ Ok (shapes.Number n)
number_fits mark bs n short value = rw (le-ltb 255 (length bs) short, value) refl

-- `$` and hex digits
pub dollar_back : (mark : Mark) (d : ℕ) (ds after : List ℕ) (n : ℕ) → is_hex_digit d ≡ true → are_word_bytes ds ≡ true → length (36 ∷ d ∷ ds) ≤ 255 → number_value (36 ∷ d ∷ ds) ≡ Some n
    → begins_word after ≡ false → Next mark ((36 ∷ d ∷ ds) ++ after) (token_of mark (shapes.Number n)) after
dollar_back mark d ds after n digit all short value clear = record {
  lexeme = 36 ∷ d ∷ ds;
  longest = longest_read ((36 ∷ d ∷ ds) ++ after) (36 ∷ d ∷ ds) after refl (read_dollar d ds after digit all clear);
  shape = dollar_number mark d ds digit ∙ number_fits mark (36 ∷ d ∷ ds) n short value;
  place = refl;
}
