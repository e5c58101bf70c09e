-- The first word of a field. (MPW Rez.)
use Rattle.std.specs.Prelude.{if◌then◌else◌, List, [], ◌∷◌, Option, Some}
use Rattle.rz_expr.specs.Keyword.{is_keyword, keyword_in}
use Rattle.rz_words.specs.declared.keyword.Keyword.{Keyword}
use Rattle.rz_words.specs.declared.keyword.Keyword.TheVariants as keywords
use Rattle.rz_lex.specs.declared.token.Token.{Token}

-- what it says, and what stands after it
pub data FieldStart : Type 0 where
  -- `key`
  Key : (behind : List Token) → FieldStart
  -- `array`, or `wide` and `array`
  Array : (behind : List Token) → FieldStart
  -- `switch`
  Switch : (behind : List Token) → FieldStart
  -- any other word, or none: a field with no fields of its own
  Flat : FieldStart

-- after `wide` stands `array`
abbrev pub wide_start : List Token → FieldStart
wide_start [] = Flat
wide_start (token ∷ tokens) = if is_keyword keywords.Array token.shape then Array tokens else Flat

abbrev pub started : Option Keyword → List Token → FieldStart
started (Some keywords.Key) behind = Key behind
started (Some keywords.Array) behind = Array behind
started (Some keywords.Wide) behind = wide_start behind
started (Some keywords.Switch) behind = Switch behind
started word behind = Flat

abbrev pub start_of : List Token → FieldStart
start_of [] = Flat
start_of (token ∷ tokens) = started (keyword_in token.shape) tokens
