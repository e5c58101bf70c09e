-- Printed lines are read as a file, where no name is a macro.
use Rattle.std.proofs.Common.{◌≡◌, inl, ℕ, ◌+◌, List, [], ◌∷◌, ◌++◌, map, length, Some, None, Ok, refl}
use Rattle.std.specs.FinMap as finite
use Rattle.std.specs.List.{AllByRecursion}
use Rattle.rz_core.specs.declared.fault.Mark.{Mark}
use Rattle.rz_folder.specs.Folder.{Files}
use Rattle.rz_folder.specs.Names.{file_of}
use Rattle.rz_lex.specs.Joined.{joined}
use Rattle.rz_lex.specs.Lines.{HasLines}
use Rattle.rz_lex.specs.Page.{lines_from, page, StandsOnPage}
use Rattle.rz_lex.specs.Printed.{token_of}
use Rattle.rz_lex.specs.declared.token.Shape.{Shape}
use Rattle.rz_lex.specs.declared.token.Shape.TheVariants as shapes
use Rattle.rz_lex.specs.declared.token.Token.{Token}
use Rattle.rz_pre.specs.Live.{body_of}
use Rattle.rz_pre.specs.Program.{levels_below, nothing_live, IncludedGoes, NamedGoes, State}
use Rattle.rz_pre.specs.declared.condition.Tool.{Tool}
use Rattle.rz_pre_source.specs.Source.{IsTextOf, IsUnmarked}
use Rattle.rz_show_lines.proofs.Pages.{tokens_of}
use Rattle.rz_show_lines.specs.Page.{AreCut, IsPrinted}
use Rattle.rz_tools.proofs.PutOut.{lines_go, AreBare}

-- a line and its tokens
abbrev pub Line : Type 0
Line = List ℕ × List Shape

abbrev pub ArePrintedLines : List Line → Type 0
ArePrintedLines lines = AllByRecursion (λ (line : Line). IsPrinted line.0 line.1) lines

abbrev pub texts_of : List Line → List (List ℕ)
texts_of lines = map (λ (line : Line). line.0) lines

abbrev pub shapes_of : List Line → List (List Shape)
shapes_of lines = map (λ (line : Line). line.1) lines

-- the tokens of the lines of a file at this position
abbrev pub tokens_at : ℕ → List Line → List Token
tokens_at file lines = tokens_of (lines_from file 1 (texts_of lines)) (shapes_of lines)

stand_all : (lines : List Line) → ArePrintedLines lines → AllByRecursion StandsOnPage (texts_of lines)
stand_all [] printed = tt
stand_all (line ∷ lines) printed =
    let mark : Mark = record { file = 0; line = 0 } in
    (record { inside = printed.0.inside; mark = mark; tokens = map (token_of mark) line.1; cut = printed.0.cut mark; bare = printed.0.bare mark }, stand_all lines printed.1)

pub cut_all : (lines : List Line) → ArePrintedLines lines → (file first : ℕ) → AreCut (lines_from file first (texts_of lines)) (shapes_of lines)
cut_all [] printed file first = tt
cut_all (line ∷ lines) printed file first = (printed.0.cut (record { file = file; line = first }), cut_all lines printed.1 file (first + 1))

bare : (tokens : List Shape) → AreBare nothing_live tokens
bare [] = tt
bare (shape ∷ tokens) = (by shape, bare tokens)
  where
    by : (shape : Shape) → body_of nothing_live shape ≡ None
    by (shapes.Word word) = refl
    by other = refl

all_bare : (lines : List (List Shape)) → AllByRecursion (AreBare nothing_live) lines
all_bare [] = tt
all_bare (line ∷ lines) = (bare line, all_bare lines)

module _ (law : (file first : ℕ) (lines : List (List ℕ)) → AllByRecursion StandsOnPage lines → HasLines file (joined first (page lines)) (lines_from file first lines) None) where
  -- a file of such lines, after files in which nothing is defined
  pub named_read : (lines : List Line) → ArePrintedLines lines → IsUnmarked (page (texts_of lines)) → (tool : Tool) (files : Files) (paths : List (List ℕ)) (name : List ℕ)
      → finite.get files name ≡ Some (page (texts_of lines)) → (tokens : List Token) (names : List (List ℕ))
      → NamedGoes tool files paths name (record { live = nothing_live; tokens = tokens; files = names })
      (Ok (record { live = nothing_live; tokens = tokens ++ tokens_at (length names) lines; files = names ++ name ∷ [] }))
  named_read lines printed unmarked tool files paths name holds tokens names =
      let text : List ℕ = page (texts_of lines) in
      let opened : State = record { live = nothing_live; tokens = tokens; files = names ++ name ∷ [] } in
      let file = length names in
      let found_there : file_of files (name ∷ []) ≡ Some (name, text) = rw holds refl in
      inl (
        (text, opened),
        rw found_there (inl (text, IsTextOf.unmarked unmarked refl, refl)),
        (
          lines_from file 1 (texts_of lines),
          None,
          law file 1 (texts_of lines) (stand_all lines printed),
          lines_go (IncludedGoes tool files paths levels_below) tool (lines_from file 1 (texts_of lines)) (shapes_of lines) opened (cut_all lines printed file 1) (all_bare (shapes_of lines)),
        ),
      )
