-- The logical lines of a joined text.
use Rattle.std.specs.Prelude.{◌≡◌, ◌≢◌, ℕ, if◌then◌else◌, List, [], ◌∷◌, ◌++◌, Option, Some, None}
use Rattle.rz_core.specs.declared.fault.Fault.{Fault}
use Rattle.rz_core.specs.declared.fault.Mark.{Mark}
use Rattle.rz_core.specs.declared.fault.Kept.TheVariants.{Nothing}
use Rattle.rz_lex.specs.declared.joined.Placed.{Placed}
use Rattle.rz_lex.specs.declared.raw_line.RawLine.{RawLine}
use Rattle.rz_lex.specs.Joined.{is_at}
use Rattle.rz_lex.specs.Cover.{after_part, text_of, Cover, Parts}

-- the mark of a line that begins with this part
abbrev pub mark_of : ℕ → List Placed → Mark
mark_of file [] = record { file = file; line = 0 }
mark_of file (first ∷ rest) = record { file = file; line = first.line }

-- the lines that follow a part, with that part in front of the first of them
abbrev pub part_before : ℕ → List Placed → List RawLine → List RawLine
part_before file part [] = record { bytes = text_of part; mark = mark_of file part } ∷ []
part_before file part (line ∷ lines) = record { bytes = text_of part ++ line.bytes; mark = mark_of file part } ∷ lines

-- what stands between the parts that are line ends; what follows the last of them is a line where it isn't empty
abbrev pub lines_of : ℕ → List (List Placed) → List RawLine
lines_of file [] = []
lines_of file (part ∷ parts) =
    if is_at 10 part
    then record { bytes = []; mark = mark_of file part } ∷ lines_of file parts
    else part_before file part (lines_of file parts)

-- 107, with the mark of the line in which the comment begins
abbrev pub open_comment : Mark → Fault
open_comment mark = record { number = 107; mark = Some mark; kept = Nothing }

-- the text has a cover, and these are its lines
pub record IsCovered (file : ℕ) (text : List Placed) (lines : List RawLine) : Type 0 where
  pub parts : List (List Placed)
  pub cover : Cover text parts
  pub are : lines ≡ lines_of file parts

-- after some first parts of the text a comment begins that never ends, these lines stand before the one in which it
-- begins, and this is its fault
pub record HasOpenComment (file : ℕ) (text : List Placed) (lines : List RawLine) (fault : Fault) : Type 0 where
  pub parts : List (List Placed)
  pub comment : List Placed
  pub before : Parts text parts comment
  pub endless : after_part comment ≡ None
  pub there : comment ≢ []
  pub last : RawLine
  pub are : lines_of file (parts ++ comment ∷ []) ≡ lines ++ last ∷ []
  pub is : fault ≡ open_comment last.mark

-- the lines of a text, and how they end: with the text, or with the fault of an open comment
abbrev pub HasLines : ℕ → List Placed → List RawLine → Option Fault → Type 0
HasLines file text lines None = IsCovered file text lines
HasLines file text lines (Some fault) = HasOpenComment file text lines fault

-- a line stands before the rest of the text: the lines of the text are this one and those of the rest, whatever the
-- rest has
abbrev pub StandsBefore : ℕ → List Placed → RawLine → List Placed → Type 0
StandsBefore file text line rest =
    (lines : List RawLine) (ending : Option Fault) → HasLines file rest lines ending → HasLines file text (line ∷ lines) ending
