-- Tokens as they are written, and what may follow them. (MPW Rez.)
use Rattle.std.specs.Prelude.{ℕ, ◌<◌, Bool, false, ◌&&◌, ◌==◌, not, if◌then◌else◌, List, [], ◌∷◌, ◌++◌}
use Rattle.std.specs.List.{AllByRecursion}
use Rattle.rz_core.specs.declared.fault.Mark.{Mark}
use Rattle.rz_lex.specs.Classes.{is_digit, is_word_byte}
use Rattle.rz_lex.specs.Extent.{are_word_bytes, ends_dollar_word}
use Rattle.rz_lex.specs.Sign.{is_sign}
use Rattle.rz_lex.specs.declared.token.Shape.{Shape}
use Rattle.rz_lex.specs.declared.token.Shape.TheVariants as shapes
use Rattle.rz_lex.specs.declared.token.Token.{Token}

-- the token of this shape at this place
abbrev pub token_of : Mark → Shape → Token
token_of mark shape = record { shape = shape; mark = mark }

-- the shape of the word with these bytes
abbrev pub word_of : List ℕ → Shape
word_of bytes = shapes.Word (record { bytes = bytes })

-- numbers of one byte each
abbrev pub AreBytes : List ℕ → Type 0
AreBytes bs = AllByRecursion (λ b. b < 256) bs

-- after `$`, a second `$` and what goes on from there to a word
abbrev pub is_dollar_word : List ℕ → Bool
is_dollar_word [] = false
is_dollar_word (b ∷ bs) = b == 36 && ends_dollar_word bs

-- a word: a letter or `_` and then word bytes, or `$$`, a letter and then word bytes
abbrev pub is_word : List ℕ → Bool
is_word [] = false
is_word (b ∷ bs) = if b == 36 then is_dollar_word bs else is_word_byte b && not (is_digit b) && are_word_bytes bs

-- a word or a number in front would go on with the first byte
abbrev pub begins_word : List ℕ → Bool
begins_word [] = false
begins_word (b ∷ bs) = is_word_byte b

-- these bytes and the first one after them are a sign
abbrev pub goes_on : List ℕ → List ℕ → Bool
goes_on sign [] = false
goes_on sign (b ∷ bs) = is_sign (sign ++ b ∷ [])
