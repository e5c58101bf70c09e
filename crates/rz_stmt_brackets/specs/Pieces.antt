-- Tokens as pieces with a sign or a word between them, which divides where it stands outside brackets. (MPW Rez.)
use Rattle.std.specs.Prelude.{◌≡◌, ℕ, ◌==◌, Bool, true, false, ◌&&◌, ◌||◌, List, [], ◌∷◌, ◌++◌}
use Rattle.rz_expr.specs.Keyword.{is_keyword}
use Rattle.rz_words.specs.declared.keyword.Keyword.TheVariants as keywords
use Rattle.rz_lex.specs.declared.sign.Sign.TheVariants as signs
use Rattle.rz_lex.specs.declared.token.Shape.{Shape}
use Rattle.rz_lex.specs.declared.token.Shape.TheVariants as shapes
use Rattle.rz_lex.specs.declared.token.Token.{Token}
use Rattle.rz_stmt_brackets.specs.Statements.{open_behind, open_behind_all}
use Rattle.rz_stmt_brackets.specs.declared.pieces.Divider.{Divider}
use Rattle.rz_stmt_brackets.specs.declared.pieces.Divider.TheVariants.{Case, CloseBrace, CloseBracket, CloseParen, Colon, Comma, Semicolon, Separator}

-- it is the sign that divides, or the word
abbrev pub divides : Divider → Shape → Bool
divides Semicolon (shapes.Sign signs.Semicolon) = true
divides Comma (shapes.Sign signs.Comma) = true
divides Colon (shapes.Sign signs.Colon) = true
divides Separator (shapes.Sign signs.Comma) = true
divides Separator (shapes.Sign signs.Semicolon) = true
divides Case shape = is_keyword keywords.Case shape
divides CloseParen (shapes.Sign signs.CloseParen) = true
divides CloseBracket (shapes.Sign signs.CloseBracket) = true
divides CloseBrace (shapes.Sign signs.CloseBrace) = true
divides divider shape = false

-- it divides, and none of the brackets before it is open
abbrev pub divides_at : Divider → ℕ → Token → Bool
divides_at divider depth token = divides divider token.shape && (depth == 0)

-- such a token is among these, before which so many brackets are open
abbrev pub has_divider : Divider → ℕ → List Token → Bool
has_divider divider depth [] = false
has_divider divider depth (token ∷ tokens) = divides_at divider depth token || has_divider divider (open_behind token.shape depth) tokens

-- what stands before such a token, and what after it
pub record Parted : Type 0 where
  pub front : List Token
  pub behind : List Token

-- the tokens are those of the front, the first such token outside brackets, and those after it
pub record IsParted (divider : Divider) (tokens : List Token) (parted : Parted) : Type 0 where
  pub sign : Token
  pub are : tokens ≡ parted.front ++ sign ∷ parted.behind
  pub first : has_divider divider 0 parted.front ≡ false
  pub divides : divides_at divider (open_behind_all parted.front 0) sign ≡ true

-- the tokens are these pieces, with one such token between two of them, and none within one of them outside brackets
pub data AreCut (divider : Divider) : List Token → List (List Token) → Type 0 where
  last : (piece : List Token) → has_divider divider 0 piece ≡ false → AreCut divider piece (piece ∷ [])
  more : (tokens : List Token) (parted : Parted) (pieces : List (List Token)) → IsParted divider tokens parted → AreCut divider parted.behind pieces
      → AreCut divider tokens (parted.front ∷ pieces)
