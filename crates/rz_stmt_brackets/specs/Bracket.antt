-- What stands in brackets. (MPW Rez.)
use Rattle.std.specs.Prelude.{◌≡◌, Bool, true, false, List, [], ◌∷◌}
use Rattle.rz_lex.specs.declared.sign.Sign.TheVariants as signs
use Rattle.rz_lex.specs.declared.token.Shape.{Shape}
use Rattle.rz_lex.specs.declared.token.Shape.TheVariants as shapes
use Rattle.rz_lex.specs.declared.token.Token.{Token}
use Rattle.rz_stmt_brackets.specs.Pieces.{IsParted, Parted}
use Rattle.rz_stmt_brackets.specs.declared.bracket.Bracket.{Bracket}
use Rattle.rz_stmt_brackets.specs.declared.bracket.Bracket.TheVariants.{Curly, Round, Square}
use Rattle.rz_stmt_brackets.specs.declared.pieces.Divider.{Divider}
use Rattle.rz_stmt_brackets.specs.declared.pieces.Divider.TheVariants.{CloseBrace, CloseBracket, CloseParen}

-- the sign that opens such brackets
abbrev pub opens : Bracket → Shape → Bool
opens Round (shapes.Sign signs.OpenParen) = true
opens Square (shapes.Sign signs.OpenBracket) = true
opens Curly (shapes.Sign signs.OpenBrace) = true
opens bracket shape = false

-- the first token opens such brackets
abbrev pub begins : Bracket → List Token → Bool
begins bracket [] = false
begins bracket (token ∷ tokens) = opens bracket token.shape

-- the sign that closes them
abbrev pub closer : Bracket → Divider
closer Round = CloseParen
closer Square = CloseBracket
closer Curly = CloseBrace

-- the tokens are a bracket that opens, what stands within, the bracket that closes it, and what stands after
pub record IsBracketed (bracket : Bracket) (tokens : List Token) (parted : Parted) : Type 0 where
  pub opener : Token
  pub rest : List Token
  pub are : tokens ≡ opener ∷ rest
  pub opens : opens bracket opener.shape ≡ true
  pub closes : IsParted (closer bracket) rest parted
