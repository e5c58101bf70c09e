-- Pages: lines that stand one below the other, each with its line end, as they are printed. (MPW Rez.)
use Rattle.std.specs.Prelude.{◌≡◌, ◌≢◌, ℕ, ◌+◌, Bool, true, false, ◌||◌, List, [], ◌∷◌, ◌++◌}
use Rattle.std.specs.List.{AllByRecursion}
use Rattle.rz_core.specs.declared.fault.Mark.{Mark}
use Rattle.rz_lex.specs.Cutting.{Cuts}
use Rattle.rz_lex.specs.declared.raw_line.RawLine.{RawLine}
use Rattle.rz_lex.specs.declared.sign.Sign.TheVariants.{Slash}
use Rattle.rz_lex.specs.declared.token.Shape.{Shape}
use Rattle.rz_lex.specs.declared.token.Shape.TheVariants as shapes
use Rattle.rz_lex.specs.declared.token.Token.{Token}

-- the bytes of lines, each with its line end
abbrev pub page : List (List ℕ) → List ℕ
page [] = []
page (line ∷ lines) = line ++ 10 ∷ page lines

-- none of the bytes ends a line
abbrev pub AreInLine : List ℕ → Type 0
AreInLine bytes = AllByRecursion (λ byte. (byte ≢ 10) × (byte ≢ 13)) bytes

abbrev pub is_slash : Shape → Bool
is_slash (shapes.Sign Slash) = true
is_slash shape = false

abbrev pub has_slash : List Token → Bool
has_slash [] = false
has_slash (token ∷ tokens) = is_slash token.shape || has_slash tokens

-- a line that stands on a page as it is: none of its bytes ends a line, and it is cut into tokens none of which is a
-- slash, so that no comment begins in it
pub record StandsOnPage (line : List ℕ) : Type 0 where
  pub inside : AreInLine line
  pub mark : Mark
  pub tokens : List Token
  pub cut : Cuts mark line tokens
  pub bare : has_slash tokens ≡ false

-- the lines with their marks, where the first is this line of a file
abbrev pub lines_from : ℕ → ℕ → List (List ℕ) → List RawLine
lines_from file first [] = []
lines_from file first (line ∷ lines) = record { bytes = line; mark = record { file = file; line = first } } ∷ lines_from file (first + 1) lines
