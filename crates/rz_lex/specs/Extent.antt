-- Lexemes: which bytes are one, and how far the longest at the front of a line goes. (MPW Rez.)
use Rattle.std.specs.Prelude.{◌≡◌, ◌≢◌, ℕ, Bool, true, false, ◌&&◌, ◌==◌, if◌then◌else◌, List, [], ◌∷◌, ◌++◌}
use Rattle.rz_lex.specs.Classes.{is_letter, is_hex_digit, is_word_byte, is_quote}
use Rattle.rz_lex.specs.Sign.{is_sign}

-- letters, digits and `_`
abbrev pub are_word_bytes : List ℕ → Bool
are_word_bytes [] = true
are_word_bytes (b ∷ bs) = is_word_byte b && are_word_bytes bs

abbrev mutual
  -- bytes that end in their first such quote mark; a backslash takes the next byte along
  pub closes : ℕ → List ℕ → Bool
  closes quote [] = false
  closes quote (b ∷ bs) = if b == quote then is_empty bs else if b == 92 then closes_behind quote bs else closes quote bs

  -- the same, after a backslash
  pub closes_behind : ℕ → List ℕ → Bool
  closes_behind quote [] = false
  closes_behind quote (b ∷ bs) = closes quote bs

  pub is_empty : List ℕ → Bool
  is_empty [] = true
  is_empty (b ∷ bs) = false

-- what goes on from `$$` to a word: a letter, and then word bytes
abbrev pub ends_dollar_word : List ℕ → Bool
ends_dollar_word [] = false
ends_dollar_word (b ∷ bs) = is_letter b && are_word_bytes bs

-- what goes on from `$`: to a number by a hex digit, to a hex text by `"`, to a word by `$`
abbrev pub ends_dollar : List ℕ → Bool
ends_dollar [] = false
ends_dollar (b ∷ bs) =
    if is_hex_digit b then are_word_bytes bs
    else if b == 34 then closes 34 bs
    else if b == 36 then ends_dollar_word bs
    else false

-- a word, a number, a literal, a text or a sign, by its extent alone
abbrev pub is_lexeme : List ℕ → Bool
is_lexeme [] = false
is_lexeme (b ∷ bs) =
    if is_word_byte b then are_word_bytes bs
    else if is_quote b then closes b bs
    else if b == 36 then ends_dollar bs
    else is_sign (b ∷ bs)

-- the rest is this front, which passes the test, and then after; no longer front passes it
pub record Longest (test : List ℕ → Bool) (rest front after : List ℕ) : Type 0 where
  pub whole : rest ≡ front ++ after
  pub passes : test front ≡ true
  pub longest : (more left : List ℕ) → after ≡ more ++ left → more ≢ [] → test (front ++ more) ≡ false

-- no front of the rest passes the test
abbrev pub NoFront : (List ℕ → Bool) → List ℕ → Type 0
NoFront test rest = (front left : List ℕ) → rest ≡ front ++ left → test front ≡ false
