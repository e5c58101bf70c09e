-- The tokens of a whole text. (MPW Rez.)
use Rattle.std.specs.Prelude.{◌≡◌, ℕ, ◌⊎◌, List, [], ◌∷◌, ◌++◌, Option, Some, None}
use Rattle.rz_core.specs.declared.fault.Fault.{Fault}
use Rattle.rz_lex.specs.Cutting.{Cuts, Refuses}
use Rattle.rz_lex.specs.Lines.{HasLines}
use Rattle.rz_lex.specs.declared.joined.Placed.{Placed}
use Rattle.rz_lex.specs.declared.raw_line.RawLine.{RawLine}
use Rattle.rz_lex.specs.declared.token.Token.{Token}

-- these are the tokens of the lines, those of one line after those of the line before
abbrev pub CutInto : List RawLine → List Token → Type 0
CutInto [] tokens = tokens ≡ []
CutInto (line ∷ lines) tokens =
    (front : List Token) × (back : List Token) × (tokens ≡ front ++ back) × Cuts line.mark line.bytes front × CutInto lines back

-- the first fault of the lines, which end so: of the first line that can't be cut, else of the open comment after all
abbrev pub FirstBad : List RawLine → Option Fault → Fault → Type 0
FirstBad [] None fault = ⊥
FirstBad [] (Some open_comment) fault = fault ≡ open_comment
FirstBad (line ∷ lines) ending fault =
    Refuses line.mark line.bytes fault ⊎ ((tokens : List Token) × Cuts line.mark line.bytes tokens × FirstBad lines ending fault)

-- the text has lines, and these are their tokens
abbrev pub Lexes : ℕ → List Placed → List Token → Type 0
Lexes file text tokens = (lines : List RawLine) × HasLines file text lines None × CutInto lines tokens

-- the text has lines and an ending, and this is their first fault
abbrev pub LexFails : ℕ → List Placed → Fault → Type 0
LexFails file text fault = (lines : List RawLine) × (ending : Option Fault) × HasLines file text lines ending × FirstBad lines ending fault
