-- Tokens that a line can be cut into. (MPW Rez.)
use Rattle.std.specs.Prelude.{◌≡◌, ℕ, ◌^◌, Bool, true, ◌&&◌, nat_le, nat_lt, List, length}
use Rattle.std.specs.List.{AllByRecursion}
use Rattle.rz_lex.specs.Printed.{is_word}
use Rattle.rz_lex.specs.declared.token.Shape.{Shape}
use Rattle.rz_lex.specs.declared.token.Shape.TheVariants as shapes
use Rattle.rz_lex.specs.declared.token.Token.{Token}

-- a word of at most 255 bytes
abbrev pub is_lexed_word : List ℕ → Bool
is_lexed_word bytes = is_word bytes && nat_le (length bytes) 255

-- a word of at most 255 bytes, a number below 2^32, a literal of one to four bytes, a text or a sign
abbrev pub is_lexed : Shape → Bool
is_lexed (shapes.Word word) = is_lexed_word word.bytes
is_lexed (shapes.Number number) = nat_lt number (2 ^ 32)
is_lexed (shapes.Literal bytes) = nat_lt 0 (length bytes) && nat_le (length bytes) 4
is_lexed (shapes.Text bytes) = true
is_lexed (shapes.Sign sign) = true

-- each token is one that a line can be cut into
abbrev pub AreLexed : List Token → Type 0
AreLexed tokens = AllByRecursion (λ token. is_lexed token.shape ≡ true) tokens
