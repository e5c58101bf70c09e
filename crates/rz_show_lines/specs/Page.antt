-- Printed text: lines that are cut into tokens.
use Rattle.std.specs.Prelude.{◌≡◌, ℕ, Bool, false, List, [], ◌∷◌, ◌++◌, map, None}
use Rattle.std.specs.List.{flat_map, AllByRecursion}
use Rattle.rz_core.specs.declared.fault.Mark.{Mark}
use Rattle.rz_lex.specs.Cutting.{Cuts}
use Rattle.rz_lex.specs.Joined.{joined}
use Rattle.rz_lex.specs.Lines.{HasLines}
use Rattle.rz_lex.specs.Page.{has_slash, AreInLine}
use Rattle.rz_lex.specs.Printed.{token_of}
use Rattle.rz_lex.specs.declared.raw_line.RawLine.{RawLine}
use Rattle.rz_lex.specs.declared.token.Shape.{Shape}
use Rattle.rz_lex.specs.declared.token.Shape.TheVariants as shapes
use Rattle.rz_show_lines.specs.Written.{line_shapes, line_text, lines_shapes, Written}

-- a line that is cut into tokens of these shapes, wherever it stands
pub record IsPrinted (line : List ℕ) (shapes : List Shape) : Type 0 where
  pub inside : AreInLine line
  pub cut : (mark : Mark) → Cuts mark line (map (token_of mark) shapes)
  pub bare : (mark : Mark) → has_slash (map (token_of mark) shapes) ≡ false

-- the text is such lines, each with its line end; these are the shapes of each
abbrev pub IsPage : List ℕ → List (List Shape) → Type 0
IsPage text [] = text ≡ []
IsPage text (shapes ∷ more) = (line : List ℕ) × (rest : List ℕ) × (text ≡ line ++ 10 ∷ rest) × IsPrinted line shapes × IsPage rest more

-- each line is cut into the tokens that are meant
abbrev pub ArePrinted : List (List Written) → Type 0
ArePrinted lines = AllByRecursion (λ line. IsPrinted (line_text line) (line_shapes line)) lines

-- a token that no live macro expands
abbrev pub IsSeenShape : (hidden : List ℕ → Bool) → Shape → Type 0
IsSeenShape hidden (shapes.Word word) = hidden word.bytes ≡ false
IsSeenShape hidden shape = Unit {0}

-- the lines are cut into the tokens that are meant, and no live macro expands one
pub record AreCutBack (hidden : List ℕ → Bool) (lines : List (List Written)) : Type 0 where
  pub printed : ArePrinted lines
  pub seen : AllByRecursion (IsSeenShape hidden) (lines_shapes lines)

-- the lines are cut into tokens of these shapes
abbrev pub AreCut : List RawLine → List (List Shape) → Type 0
AreCut [] [] = Unit {0}
AreCut (line ∷ lines) (shapes ∷ more) = Cuts line.mark line.bytes (map (token_of line.mark) shapes) × AreCut lines more
AreCut lines shapes = ⊥

-- the text has lines, wherever it stands, and they are cut into these tokens
pub record HasTokens (text : List ℕ) (tokens : List Shape) : Type 0 where
  pub lines : List (List Shape)
  pub are : tokens ≡ flat_map (λ line. line) lines
  pub read : (file first : ℕ) → (raw_lines : List RawLine) × HasLines file (joined first text) raw_lines None × AreCut raw_lines lines
