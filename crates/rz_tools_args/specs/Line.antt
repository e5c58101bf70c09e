-- Tokens that are one word.
use Rattle.std.specs.Prelude.{ℕ, Bool, false, List, [], ◌∷◌}
use Rattle.std.specs.Str.{bytes_eq}
use Rattle.rz_lex.specs.declared.token.Shape.{Shape}
use Rattle.rz_lex.specs.declared.token.Shape.TheVariants as shapes
use Rattle.rz_lex.specs.declared.token.Token.{Token}

abbrev pub is_word : Shape → List ℕ → Bool
is_word (shapes.Word word) bytes = bytes_eq word.bytes bytes
is_word shape bytes = false

-- the tokens are the word with these bytes alone
abbrev pub is_one_word : List Token → List ℕ → Bool
is_one_word (token ∷ []) bytes = is_word token.shape bytes
is_one_word tokens bytes = false
