-- Tokens that lines can be cut into, in a program and in what its words stand for. (MPW Rez.)
use Rattle.std.specs.Prelude.{◌≡◌, ℕ, true, List, Some, IfSome}
use Rattle.std.specs.List.{AllByRecursion}
use Rattle.rz_lex.specs.Lexeme.{is_lexed, AreLexed}
use Rattle.rz_lex.specs.declared.token.Shape.{Shape}
use Rattle.rz_lex.specs.declared.token.Token.{Token}
use Rattle.rz_pre.specs.Live.{live_in, Live}
use Rattle.rz_pre.specs.Macros.{rows_of}
use Rattle.rz_pre.specs.declared.program.Def.{Def}
use Rattle.rz_pre.specs.declared.reading.Reading.{Reading}

-- each is the shape of a token that a line can be cut into
abbrev pub AreLexedShapes : List Shape → Type 0
AreLexedShapes shapes = AllByRecursion (λ shape. is_lexed shape ≡ true) shapes

-- the tokens are lexed, and so is what stands in place of each name
pub record IsLexed (live : Live) (tokens : List Token) : Type 0 where
  pub tokens_lexed : AreLexed tokens
  pub bodies_lexed : (name : List ℕ) (body : List Shape) → live name ≡ Some body → AreLexedShapes body

-- the text of each definition that has one is lexed
abbrev pub HaveLexedTexts : List Def → Type 0
HaveLexedTexts defs = AllByRecursion (λ (def : Def). IfSome def.text (λ text. AreLexed text)) defs

-- what was read so far is lexed
abbrev pub IsLexedReading : Reading → Type 0
IsLexedReading reading = IsLexed (live_in (rows_of reading.macros)) reading.tokens
