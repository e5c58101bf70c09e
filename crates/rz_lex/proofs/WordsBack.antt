-- Words, numbers and signs that are written are read back, whatever follows that does not go on with them.
use Rattle.std.proofs.Common.{◌≡◌, ℕ, ◌<◌, ◌≤◌, ◌^◌, true, false, List, [], ◌∷◌, ◌++◌, Some, Ok, length, refl, sym, ap, ◌∙◌, subst, arith}
use Rattle.std.specs.Prelude.{get_or, decimal, not, ◌==◌, ◌&&◌}
use Rattle.std.proofs.lemmas.Bool.{and_parts, le-ltb, ne_eqb, eqb-true, false≢true, not-true}
use Rattle.std.proofs.lemmas.Fmt.{length-decimal-le, decimal_nonempty}
use Rattle.rz_core.specs.Decimal.{decimal_of}
use Rattle.rz_core.specs.declared.fault.Mark.{Mark}
use Rattle.rz_lex.specs.Classes.{is_digit, is_letter, is_word_byte, is_blank}
use Rattle.rz_lex.specs.Extent.{are_word_bytes, ends_dollar_word}
use Rattle.rz_lex.specs.Scan.{after_run, after_sign, after_lexeme}
use Rattle.rz_lex.specs.Sign.{sign_text, is_sign}
use Rattle.rz_lex.specs.Digits.{number_value}
use Rattle.rz_lex.specs.Shape.{shape_of, word_shape, number_shape}
use Rattle.rz_lex.specs.Cutting.{after_blanks, Next, Cuts}
use Rattle.rz_lex.specs.Printed.{is_word, is_dollar_word, begins_word, goes_on, token_of, word_of}
use Rattle.rz_lex.specs.declared.sign.Sign.{Sign}
use Rattle.rz_lex.specs.declared.sign.Sign.TheVariants as signs
use Rattle.rz_lex.specs.declared.token.Shape.TheVariants as shapes
use Rattle.rz_lex.specs.declared.token.Token.{Token}
use Rattle.rz_core.proofs.Tests.{by_test}
use Rattle.rz_lex.proofs.Ends.{longest_read}
use Rattle.rz_lex.proofs.Decimals.{Spells, are_decimal, digit_in_word, decimal_in_word, decimal_spells, decimal_value, decimal_alone, length-zero}

-- one token more in front
pub token_more : (mark : Mark) (line after : List ℕ) (token : Token) (tokens : List Token) → Next mark line token after → Cuts mark after tokens → Cuts mark line (token ∷ tokens)
token_more mark line after token tokens next cuts = (cuts.0, (after, next, cuts.1), cuts.2)

-- one blank more in front
pub blank_more : (mark : Mark) (blank : ℕ) (line : List ℕ) (tokens : List Token) → is_blank blank ≡ true → Cuts mark line tokens → Cuts mark (blank ∷ line) tokens
blank_more mark blank line [] h cuts = (blank ∷ line, refl, rw h (ap after_blanks cuts.1 ∙ cuts.2))
blank_more mark blank line (token ∷ tokens) h cuts = (cuts.0, (cuts.1.0, record { lexeme = cuts.1.1.lexeme; longest = rw h cuts.1.1.longest; shape = cuts.1.1.shape; place = cuts.1.1.place }, cuts.1.2), cuts.2)

-- runs of word bytes

run_stops : (after : List ℕ) → begins_word after ≡ false → after_run after ≡ after
run_stops [] clear = refl
run_stops (b ∷ after) clear = rw clear refl

pub run_back : (bs after : List ℕ) → are_word_bytes bs ≡ true → begins_word after ≡ false → after_run (bs ++ after) ≡ after
run_back [] after all clear = run_stops after clear
run_back (b ∷ bs) after all clear = let parts = and_parts (is_word_byte b) (are_word_bytes bs) all in rw parts.0 (run_back bs after parts.1 clear)

pub no_blank : (b : ℕ) → is_word_byte b ≡ true → is_blank b ≡ false
no_blank b word = rw (ne_eqb b 32 (differs 32 refl), ne_eqb b 9 (differs 9 refl), ne_eqb b 11 (differs 11 refl), ne_eqb b 12 (differs 12 refl)) refl
  where
    differs : (x : ℕ) → is_word_byte x ≡ false → b ≡ x → ⊥
    differs x other e = false≢true (sym other ∙ ap is_word_byte (sym e) ∙ word)

read_run : (b : ℕ) (bs after : List ℕ) → is_word_byte b ≡ true → are_word_bytes bs ≡ true → begins_word after ≡ false → after_lexeme ((b ∷ bs) ++ after) ≡ Some after
read_run b bs after word all clear = rw word (ap (λ (x : List ℕ). Some x) (run_back bs after all clear))

-- words

word_fits : (mark : Mark) (bs : List ℕ) → length bs ≤ 255 → word_shape mark bs ≡ Ok (shapes.Word (record { bytes = bs }))
word_fits mark bs short = rw (le-ltb 255 (length bs) short) refl

plain_shape : (mark : Mark) (b : ℕ) (bs : List ℕ) → is_digit b ≡ false → is_word_byte b ≡ true → shape_of mark (b ∷ bs) ≡ word_shape mark (b ∷ bs)
plain_shape mark b bs digit word = rw (word, digit) refl

plain_word : (mark : Mark) (b : ℕ) (bs after : List ℕ) → is_digit b ≡ false → is_word_byte b ≡ true → are_word_bytes bs ≡ true → length (b ∷ bs) ≤ 255 → begins_word after ≡ false
    → Next mark ((b ∷ bs) ++ after) (token_of mark (word_of (b ∷ bs))) after
plain_word mark b bs after digit word all short clear = record {
  lexeme = b ∷ bs;
  longest = rw (no_blank b word) (longest_read ((b ∷ bs) ++ after) (b ∷ bs) after refl (read_run b bs after word all clear));
  shape = plain_shape mark b bs digit word ∙ word_fits mark (b ∷ bs) short;
  place = refl;
}

read_dollars : (bs after : List ℕ) → ends_dollar_word bs ≡ true → begins_word after ≡ false → after_lexeme (36 ∷ 36 ∷ (bs ++ after)) ≡ Some after
read_dollars [] after all clear = absurd (false≢true all)
read_dollars (b ∷ bs) after all clear = let parts = and_parts (is_letter b) (are_word_bytes bs) all in rw parts.0 (ap (λ (x : List ℕ). Some x) (run_back bs after parts.1 clear))

dollar_word : (mark : Mark) (bs after : List ℕ) → ends_dollar_word bs ≡ true → length (36 ∷ 36 ∷ bs) ≤ 255 → begins_word after ≡ false
    → Next mark ((36 ∷ 36 ∷ bs) ++ after) (token_of mark (word_of (36 ∷ 36 ∷ bs))) after
dollar_word mark bs after all short clear = record {
  lexeme = 36 ∷ 36 ∷ bs;
  longest = longest_read ((36 ∷ 36 ∷ bs) ++ after) (36 ∷ 36 ∷ bs) after refl (read_dollars bs after all clear);
  shape = word_fits mark (36 ∷ 36 ∷ bs) short;
  place = refl;
}

behind_dollar : (mark : Mark) (bs after : List ℕ) → is_dollar_word bs ≡ true → length (36 ∷ bs) ≤ 255 → begins_word after ≡ false
    → Next mark ((36 ∷ bs) ++ after) (token_of mark (word_of (36 ∷ bs))) after
behind_dollar mark [] after is short clear = absurd (false≢true is)
behind_dollar mark (b ∷ bs) after is short clear =
    let parts = and_parts (b == 36) (ends_dollar_word bs) is in
    let same : 36 ≡ b = sym (eqb-true b 36 parts.0) in
    subst (λ (x : ℕ). Next mark ((36 ∷ x ∷ bs) ++ after) (token_of mark (word_of (36 ∷ x ∷ bs))) after) same (dollar_word mark bs after parts.1 short clear)

pub word_back : (mark : Mark) (word after : List ℕ) → is_word word ≡ true → length word ≤ 255 → begins_word after ≡ false → Next mark (word ++ after) (token_of mark (word_of word)) after
word_back mark [] after is short clear = absurd (false≢true is)
word_back mark (b ∷ bs) after is short clear = by_test (Next mark ((b ∷ bs) ++ after) (token_of mark (word_of (b ∷ bs))) after) (b == 36)
    (λ h. let dollar : is_dollar_word bs ≡ true = rw h at is in let same : 36 ≡ b = sym (eqb-true b 36 h) in
    subst (λ (x : ℕ). Next mark ((x ∷ bs) ++ after) (token_of mark (word_of (x ∷ bs))) after) same (behind_dollar mark bs after dollar short clear))
    (λ h. let plain : (is_word_byte b && not (is_digit b) && are_word_bytes bs) ≡ true = rw h at is in
    let parts = and_parts (is_word_byte b && not (is_digit b)) (are_word_bytes bs) plain in
    let first = and_parts (is_word_byte b) (not (is_digit b)) parts.0 in
    plain_word mark b bs after (not-true (is_digit b) first.1) first.0 parts.1 short clear)

-- numbers

digit_shape : (mark : Mark) (d : ℕ) (ds : List ℕ) → is_digit d ≡ true → shape_of mark (d ∷ ds) ≡ number_shape mark (d ∷ ds)
digit_shape mark d ds digit = rw digit refl

number_fits : (mark : Mark) (bs : List ℕ) (n : ℕ) → length bs ≤ 255 → number_value bs ≡ Some n → number_shape mark bs ≡ Ok (shapes.Number n)
number_fits mark bs n short value = rw (le-ltb 255 (length bs) short, value) refl

-- any form of a number that begins with a digit
pub digits_back : (mark : Mark) (d : ℕ) (ds after : List ℕ) (n : ℕ) → is_digit d ≡ true → are_word_bytes ds ≡ true → length (d ∷ ds) ≤ 255 → number_value (d ∷ ds) ≡ Some n → begins_word after ≡ false
    → Next mark ((d ∷ ds) ++ after) (token_of mark (shapes.Number n)) after
digits_back mark d ds after n digit all short value clear = record {
  lexeme = d ∷ ds;
  longest = rw (no_blank d (digit_in_word d digit)) (longest_read ((d ∷ ds) ++ after) (d ∷ ds) after refl (read_run d ds after (digit_in_word d digit) all clear));
  shape = digit_shape mark d ds digit ∙ number_fits mark (d ∷ ds) n short value;
  place = refl;
}

spelled_back : (mark : Mark) (ds after : List ℕ) (n : ℕ) → Spells n ds → n < 2 ^ 32 → 0 < length ds → (get_or ds 0 0 ≡ 48 → length ds ≡ 1) → length ds ≤ 255 → begins_word after ≡ false
    → Next mark (ds ++ after) (token_of mark (shapes.Number n)) after
spelled_back mark [] after n spells below some alone short clear = absurd (omega (arith, some))
spelled_back mark (d ∷ ds) after n spells below some alone short clear =
    let parts = and_parts (is_digit d) (are_decimal ds) spells.digits in
    digits_back mark d ds after n parts.0 (decimal_in_word ds parts.1) short (decimal_value d ds n parts.0 spells below (λ e. length-zero ds (let one = alone e in omega (arith, one)))) clear

decimal_back : (mark : Mark) (n : ℕ) (after : List ℕ) → n < 2 ^ 32 → begins_word after ≡ false → Next mark (decimal n ++ after) (token_of mark (shapes.Number n)) after
decimal_back mark n after below clear =
    let wide : n < 2 ^ 64 = omega arith in
    let short : length (decimal n) ≤ 10 = length-decimal-le 10 n (omega arith) (omega arith) wide in
    spelled_back mark (decimal n) after n (decimal_spells n wide) below (decimal_nonempty n wide) (decimal_alone n wide) (omega (arith, short)) clear

pub number_back : (mark : Mark) (n : ℕ) (after : List ℕ) → n < 2 ^ 32 → begins_word after ≡ false → Next mark (decimal_of n ++ after) (token_of mark (shapes.Number n)) after
unfolding decimal_of
number_back mark n after below clear = decimal_back mark n after below clear

-- signs

-- the longest sign at the front of a sign and what does not go on with it
sign_stops : (sign after : List ℕ) → is_sign sign ≡ true → goes_on sign after ≡ false → after_sign (sign ++ after) ≡ Some after
sign_stops [] after is clear = absurd (false≢true is)
sign_stops (a ∷ []) [] is clear = rw is refl
sign_stops (a ∷ []) (b ∷ after) is clear = rw (clear, is) refl
sign_stops (a ∷ b ∷ []) after is clear = rw is refl
sign_stops (a ∷ b ∷ c ∷ bs) after is clear = absurd (false≢true is)

sign_of-text : (sign : Sign) → is_sign (sign_text sign) ≡ true
sign_of-text signs.Comma = refl
sign_of-text _ = refl

sign_shape_is : (mark : Mark) (sign : Sign) → shape_of mark (sign_text sign) ≡ Ok (shapes.Sign sign)
sign_shape_is mark signs.Comma = refl
sign_shape_is mark _ = refl

sign_begins : (sign : Sign) (after : List ℕ) → after_lexeme (sign_text sign ++ after) ≡ after_sign (sign_text sign ++ after)
sign_begins signs.Comma after = refl
sign_begins _ after = refl

sign_no_blank : (sign : Sign) (after : List ℕ) → after_blanks (sign_text sign ++ after) ≡ sign_text sign ++ after
sign_no_blank signs.Comma after = refl
sign_no_blank _ after = refl

pub sign_back : (mark : Mark) (sign : Sign) (after : List ℕ) → goes_on (sign_text sign) after ≡ false → Next mark (sign_text sign ++ after) (token_of mark (shapes.Sign sign)) after
sign_back mark sign after clear = record {
  lexeme = sign_text sign;
  longest = rw (sign_no_blank sign after) (longest_read (sign_text sign ++ after) (sign_text sign) after refl (sign_begins sign after ∙ sign_stops (sign_text sign) after (sign_of-text sign) clear));
  shape = sign_shape_is mark sign;
  place = refl;
}
