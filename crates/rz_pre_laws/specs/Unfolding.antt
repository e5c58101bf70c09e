-- A program as one list of what is read: line by line, and directly after a line that includes a file what is read of
-- that file. (MPW Rez.)
use Rattle.std.specs.Prelude.{◌≡◌, ◌⊎◌, ℕ, zero, suc, ◌-◌, List, [], ◌∷◌, ◌++◌, length, Option, Some, None, Ok, Err}
use Rattle.std.specs.declared.result.Result.{Result}
use Rattle.rz_core.specs.declared.fault.Fault.{Fault}
use Rattle.rz_core.specs.declared.fault.Mark.{Mark}
use Rattle.rz_folder.specs.Folder.{Files}
use Rattle.rz_lex.specs.Joined.{joined}
use Rattle.rz_lex.specs.Lines.{HasLines}
use Rattle.rz_lex.specs.declared.raw_line.RawLine.{RawLine}
use Rattle.rz_pre_source.specs.Source.{IsBadAt, IsTextOf}
use Rattle.rz_pre.specs.Line.{Does}
use Rattle.rz_folder.specs.Names.{file_of, missing_file, names_of, utf8_name}
use Rattle.rz_pre.specs.Program.{bad_text, fails, innermost, levels_below, open_if, opens_after, start, state_after, too_deep, with_file, State}
use Rattle.rz_pre.specs.declared.program.Failure.{Failure}
use Rattle.rz_pre.specs.declared.act.Act.{Act}
use Rattle.rz_pre.specs.declared.act.Act.TheVariants.{Include}
use Rattle.rz_pre.specs.declared.condition.Tool.{Tool}
use Rattle.rz_pre.specs.declared.conditional.Open.{Open}
use Rattle.rz_pre.specs.declared.program.Def.{Def}

-- a file is opened under a name; or a line on some level is read, in the innermost conditional of its file, and does
-- this
pub data Entry : Type 0 where
  Opened : (name : List ℕ) → Entry
  Line : (level : ℕ) (around : Option Open) (line : RawLine) (act : Act) → Entry

-- what is read after an entry, and after several
abbrev pub behind : Entry → State → State
behind (Opened name) s = with_file name s
behind (Line level around line act) s = state_after act s

abbrev pub behind_all : List Entry → State → State
behind_all [] s = s
behind_all (entry ∷ entries) s = behind_all entries (behind entry s)

-- each line does what it does under what is live after the entries before it
abbrev pub EachActs : Tool → List Entry → State → Type 0
EachActs tool [] s = Unit {0}
EachActs tool (Opened name ∷ entries) s = EachActs tool entries (with_file name s)
EachActs tool (Line level around line act ∷ entries) s = Does s.live tool around line (Ok act) × EachActs tool entries (state_after act s)

-- what is answered: all entries and no fault, or the fault that stands after them
abbrev pub outcome : List Entry → Option Fault → State → Result State Failure
outcome entries None s = Ok (behind_all entries s)
outcome entries (Some fault) s = fails fault (behind_all entries s)

-- The order of the entries. Each stretch has entries, and maybe a fault after them.

abbrev pub Stretch : Type 1
Stretch = List Entry → Option Fault → Type 0

-- the fault at the end of a file
abbrev pub left_open : List Open → Option Fault
left_open [] = None
left_open (one ∷ opens) = Some (open_if one)

-- directly after a line: what is read of the file that it includes
abbrev pub BehindLine : (List ℕ → Mark → State → Stretch) → Mark → Act → State → Stretch
BehindLine Inner mark (Include name) s = Inner name mark s
BehindLine Inner mark act s = λ entries fault. (entries ≡ []) × (fault ≡ None)

-- a line has a fault; or it does something, and there is a fault in the file that it includes; or it does something,
-- and after it and what stands directly after it the lines that follow are read
abbrev pub StopsAt : Tool → List Open → State → RawLine → Stretch
StopsAt tool opens s line entries fault =
    (own : Fault) × Does s.live tool (innermost opens) line (Err own) × (entries ≡ []) × (fault ≡ Some own)

abbrev pub StopsBehind : (List ℕ → Mark → State → Stretch) → Tool → ℕ → List Open → State → RawLine → Stretch
StopsBehind Inner tool level opens s line entries fault =
    (act : Act) × (inner : List Entry) × (own : Fault) × Does s.live tool (innermost opens) line (Ok act)
    × BehindLine Inner line.mark act (state_after act s) inner (Some own)
    × (entries ≡ Line level (innermost opens) line act ∷ inner) × (fault ≡ Some own)

abbrev pub GoesOn : (List ℕ → Mark → State → Stretch) → Tool → ℕ → List Open → State → RawLine → (List Open → State → Stretch) → Stretch
GoesOn Inner tool level opens s line Later entries fault =
    (act : Act) × (inner : List Entry) × (more : List Entry) × Does s.live tool (innermost opens) line (Ok act)
    × BehindLine Inner line.mark act (state_after act s) inner None
    × (entries ≡ Line level (innermost opens) line act ∷ (inner ++ more))
    × Later (opens_after line.mark act opens) (behind_all inner (state_after act s)) more fault

-- the lines of a file on some level, from some line on
abbrev pub LinesUnfold : (List ℕ → Mark → State → Stretch) → Tool → ℕ → List RawLine → Option Fault → List Open → State → Stretch
LinesUnfold Inner tool level [] None opens s entries fault = (entries ≡ []) × (fault ≡ left_open opens)
LinesUnfold Inner tool level [] (Some open_comment) opens s entries fault = (entries ≡ []) × (fault ≡ Some open_comment)
LinesUnfold Inner tool level (line ∷ lines) ending opens s entries fault =
    StopsAt tool opens s line entries fault
    ⊎ (StopsBehind Inner tool level opens s line entries fault
    ⊎ GoesOn Inner tool level opens s line (λ after t. LinesUnfold Inner tool level lines ending after t) entries fault)

-- a file that was found: its text, or 102 before its first line
abbrev pub FileUnfolds : (List ℕ → Mark → State → Stretch) → Tool → ℕ → Fault → State → Option (List ℕ × List ℕ) → Stretch
FileUnfolds Inner tool level missing s None entries fault = (entries ≡ []) × (fault ≡ Some missing)
FileUnfolds Inner tool level missing s (Some found) entries fault =
    (rest : List Entry) × (entries ≡ Opened found.0 ∷ rest)
    × (((offset : ℕ) × IsBadAt found.1 offset × (rest ≡ []) × (fault ≡ Some (bad_text (length s.files) offset)))
    ⊎ ((text : List ℕ) × (lines : List RawLine) × (ending : Option Fault) × IsTextOf found.1 text
    × HasLines (length s.files) (joined 1 text) lines ending × LinesUnfold Inner tool level lines ending [] (with_file found.0 s) rest fault))

-- an included file, where so many levels are left of 16, its own counted: with one left it stands on level 16
abbrev pub IncludedUnfolds : Tool → Files → List (List ℕ) → ℕ → List ℕ → Mark → State → Stretch
IncludedUnfolds tool files paths zero name mark s entries fault = (entries ≡ []) × (fault ≡ Some (too_deep mark))
IncludedUnfolds tool files paths (suc left) name mark s entries fault =
    FileUnfolds (IncludedUnfolds tool files paths left) tool (16 - left) (missing_file (Some mark) name) s
    (file_of files (names_of paths (utf8_name name))) entries fault

-- the named files, one after the other, on level 1
abbrev pub NamesUnfold : Tool → Files → List (List ℕ) → List (List ℕ) → State → Stretch
NamesUnfold tool files paths [] s entries fault = (entries ≡ []) × (fault ≡ None)
NamesUnfold tool files paths (name ∷ names) s entries fault =
    ((own : Fault) × FileUnfolds (IncludedUnfolds tool files paths levels_below) tool 1 (missing_file None name) s (file_of files (name ∷ [])) entries (Some own) × (fault ≡ Some own))
    ⊎ ((first : List Entry) × (more : List Entry) × FileUnfolds (IncludedUnfolds tool files paths levels_below) tool 1 (missing_file None name) s (file_of files (name ∷ [])) first None
    × (entries ≡ first ++ more) × NamesUnfold tool files paths names (behind_all first s) more fault)

-- the entries of a program, and the first fault after them, if there is one
abbrev pub ProgramUnfolds : Files → Tool → List (List ℕ) → List (List ℕ) → List Def → Stretch
ProgramUnfolds files tool names paths defs = NamesUnfold tool files paths names (start defs)
