-- What follows the longest lexeme at the front of a line, read byte by byte.
use Rattle.std.specs.Prelude.{ℕ, ◌==◌, if◌then◌else◌, List, [], ◌∷◌, Option, Some, None}
use Rattle.std.specs.Option.{is_some}
use Rattle.rz_lex.specs.Classes.{is_letter, is_hex_digit, is_word_byte, is_quote}
use Rattle.rz_lex.specs.Sign.{sign_of_one, sign_of_two}

-- what follows the word bytes at the front
abbrev pub after_run : List ℕ → List ℕ
after_run [] = []
after_run (b ∷ bs) = if is_word_byte b then after_run bs else b ∷ bs

abbrev mutual
  -- what follows the first such quote mark; a backslash takes the next byte along
  pub after_quote : ℕ → List ℕ → Option (List ℕ)
  after_quote quote [] = None
  after_quote quote (b ∷ bs) = if b == quote then Some bs else if b == 92 then after_taken quote bs else after_quote quote bs

  -- the same, after a backslash
  pub after_taken : ℕ → List ℕ → Option (List ℕ)
  after_taken quote [] = None
  after_taken quote (b ∷ bs) = after_quote quote bs

-- what follows a word whose `$$` is passed
abbrev pub after_two_dollars : List ℕ → Option (List ℕ)
after_two_dollars [] = None
after_two_dollars (b ∷ bs) = if is_letter b then Some (after_run bs) else None

-- what follows a lexeme whose `$` is passed
abbrev pub after_dollar : List ℕ → Option (List ℕ)
after_dollar [] = None
after_dollar (b ∷ bs) =
    if is_hex_digit b then Some (after_run bs)
    else if b == 34 then after_quote 34 bs
    else if b == 36 then after_two_dollars bs
    else None

-- what follows a byte that is a sign
abbrev pub after_one : ℕ → List ℕ → Option (List ℕ)
after_one first bs = if is_some (sign_of_one first) then Some bs else None

-- what follows the longest sign at the front
abbrev pub after_sign : List ℕ → Option (List ℕ)
after_sign [] = None
after_sign (a ∷ []) = after_one a []
after_sign (a ∷ b ∷ bs) = if is_some (sign_of_two a b) then Some bs else after_one a (b ∷ bs)

-- what follows the longest lexeme at the front
abbrev pub after_lexeme : List ℕ → Option (List ℕ)
after_lexeme [] = None
after_lexeme (b ∷ bs) =
    if is_word_byte b then Some (after_run bs)
    else if is_quote b then after_quote b bs
    else if b == 36 then after_dollar bs
    else after_sign (b ∷ bs)
