-- Lines that are printed are the lines of a page, and have the tokens of the page.
use Rattle.std.proofs.Common.{◌≡◌, ℕ, ◌+◌, List, [], ◌∷◌, ◌++◌, map, None, refl, sym, ap, subst, ◌∙◌, append_assoc}
use Rattle.std.specs.List.{flat_map, AllByRecursion}
use Rattle.std.proofs.lemmas.List.{map-append}
use Rattle.rz_core.specs.declared.fault.Mark.{Mark}
use Rattle.rz_lex.specs.Joined.{joined}
use Rattle.rz_lex.specs.Lexed.{CutInto, Lexes}
use Rattle.rz_lex.specs.Lines.{HasLines}
use Rattle.rz_lex.specs.Page.{lines_from, page, StandsOnPage}
use Rattle.rz_lex.specs.Printed.{token_of}
use Rattle.rz_lex.specs.declared.raw_line.RawLine.{RawLine}
use Rattle.rz_lex.specs.declared.token.Shape.{Shape}
use Rattle.rz_lex.specs.declared.token.Token.{Token}
use Rattle.rz_show_lines.proofs.Split.{shapes_in}
use Rattle.rz_show_lines.specs.Page.{AreCut, ArePrinted, HasTokens, IsPage}
use Rattle.rz_show_lines.specs.Written.{line_shapes, line_text, lines_text, Written}

pub page_front : (lines : List (List Written)) (text : List ℕ) (more : List (List Shape)) → ArePrinted lines → IsPage text more → IsPage (lines_text lines ++ text) (map line_shapes lines ++ more)
page_front [] text more all behind = behind
page_front (line ∷ lines) text more all behind =
    (line_text line, lines_text lines ++ text, append_assoc (line_text line) (10 ∷ lines_text lines) text, all.0, page_front lines text more all.1 behind)

record Lines (text : List ℕ) (shapes : List (List Shape)) : Type 0 where
  lines : List (List ℕ)
  is : text ≡ page lines
  stand : AllByRecursion StandsOnPage lines
  cut : (file first : ℕ) → AreCut (lines_from file first lines) shapes

page_of : (text : List ℕ) (shapes : List (List Shape)) → IsPage text shapes → Lines text shapes
page_of text [] is = record { lines = []; is = is; stand = tt; cut = λ file first. tt }
page_of text (shapes ∷ more) is =
    let behind = page_of is.1 more is.4 in
    let mark : Mark = record { file = 0; line = 0 } in
    record {
      lines = is.0 ∷ behind.lines;
      is = is.2 ∙ ap (λ (x : List ℕ). is.0 ++ 10 ∷ x) behind.is;
      stand = (record { inside = is.3.inside; mark = mark; tokens = map (token_of mark) shapes; cut = is.3.cut mark; bare = is.3.bare mark }, behind.stand);
      cut = λ file first. (is.3.cut (record { file = file; line = first }), behind.cut file (first + 1));
    }

-- a page has the tokens of its lines
pub has_tokens : ((file first : ℕ) (lines : List (List ℕ)) → AllByRecursion StandsOnPage lines → HasLines file (joined first (page lines)) (lines_from file first lines) None)
    → (text : List ℕ) (lines : List (List Shape)) → IsPage text lines → HasTokens text (flat_map (λ line. line) lines)
has_tokens law text lines is =
    let all = page_of text lines is in
    record {
      lines = lines;
      are = refl;
      read = λ file first. (
        lines_from file first all.lines,
        subst (λ (x : List ℕ). HasLines file (joined first x) (lines_from file first all.lines) None) (sym all.is) (law file first all.lines all.stand),
        all.cut file first,
      );
    }

-- The tokens of the lines, one after the other.

abbrev pub tokens_of : List RawLine → List (List Shape) → List Token
tokens_of [] shapes = []
tokens_of (line ∷ lines) [] = []
tokens_of (line ∷ lines) (shapes ∷ more) = map (token_of line.mark) shapes ++ tokens_of lines more

shapes_again : (mark : Mark) (shapes : List Shape) → shapes_in (map (token_of mark) shapes) ≡ shapes
shapes_again mark [] = refl
shapes_again mark (shape ∷ shapes) = ap (λ (x : List Shape). shape ∷ x) (shapes_again mark shapes)

pub shapes_of_lines : (lines : List RawLine) (shapes : List (List Shape)) → AreCut lines shapes → shapes_in (tokens_of lines shapes) ≡ flat_map (λ line. line) shapes
shapes_of_lines [] [] cut = refl
shapes_of_lines [] (shapes ∷ more) cut = absurd cut
shapes_of_lines (line ∷ lines) [] cut = absurd cut
shapes_of_lines (line ∷ lines) (shapes ∷ more) cut =
    map-append (λ (token : Token). token.shape) (map (token_of line.mark) shapes) (tokens_of lines more) ∙ (λ i. shapes_again line.mark shapes i ++ shapes_of_lines lines more cut.1 i)

cut_into : (lines : List RawLine) (shapes : List (List Shape)) → AreCut lines shapes → CutInto lines (tokens_of lines shapes)
cut_into [] [] cut = refl
cut_into [] (shapes ∷ more) cut = absurd cut
cut_into (line ∷ lines) [] cut = absurd cut
cut_into (line ∷ lines) (shapes ∷ more) cut = (map (token_of line.mark) shapes, tokens_of lines more, refl, cut.0, cut_into lines more cut.1)

-- a text that has tokens, as a whole text
pub whole_text : (text : List ℕ) (tokens : List Shape) → HasTokens text tokens → (file : ℕ) → (read : List Token) × Lexes file (joined 1 text) read × (shapes_in read ≡ tokens)
whole_text text tokens has file =
    let lines = has.read file 1 in (
      tokens_of lines.0 has.lines,
      (lines.0, lines.1, cut_into lines.0 has.lines lines.2),
      shapes_of_lines lines.0 has.lines lines.2 ∙ sym has.are,
    )
