-- What the named files mean as one program, or its first fault. (MPW Rez.)
use Rattle.std.specs.Prelude.{◌≡◌, ℕ, zero, suc, pos, false, List, [], ◌∷◌, ◌++◌, length, Option, Some, None, Ok, Err, option_map}
use Rattle.std.specs.Str.{str_to_ascii_lowercase}
use Rattle.std.specs.declared.result.Result.{Result}
use Rattle.rz_core.specs.declared.fault.Fault.{Fault}
use Rattle.rz_core.specs.declared.fault.Kept.TheVariants.{Nothing as NothingKept, Number}
use Rattle.rz_core.specs.declared.fault.Mark.{Mark}
use Rattle.rz_folder.specs.Folder.{Files}
use Rattle.rz_lex.specs.Joined.{joined}
use Rattle.rz_lex.specs.Lines.{HasLines}
use Rattle.rz_lex.specs.declared.joined.Placed.{Placed}
use Rattle.rz_lex.specs.declared.raw_line.RawLine.{RawLine}
use Rattle.rz_lex.specs.declared.token.Token.{Token}
use Rattle.rz_core.specs.Answers.{Then}
use Rattle.rz_folder.specs.Names.{file_of, missing_file, names_of, utf8_name}
use Rattle.rz_pre.specs.Line.{Does}
use Rattle.rz_pre.specs.Live.{put, shapes_of, Live}
use Rattle.rz_pre_source.specs.Source.{IsBadAt, IsTextOf}
use Rattle.rz_pre.specs.declared.act.Act.{Act}
use Rattle.rz_pre.specs.declared.act.Act.TheVariants.{Begin, End, Include, Put, Set, Turn}
use Rattle.rz_pre.specs.declared.condition.Tool.{Tool}
use Rattle.rz_pre.specs.declared.conditional.Open.{Open}
use Rattle.rz_pre.specs.declared.program.Def.{Def}
use Rattle.rz_pre.specs.declared.program.Failure.{Failure}

-- what was read so far: what is live, the tokens that were put out, and the names under which files were opened
pub record State : Type 0 where
  pub live : Live
  pub tokens : List Token
  pub files : List (List ℕ)

-- the fault, and the files that were opened until then
abbrev pub fails : {X : Type 0} → Fault → State → Result X Failure
fails fault s = Err (record { fault = fault; files = s.files })

-- an answer whose fault comes when these files are open
abbrev pub WithFiles : {X : Type 0} → List (List ℕ) → (Result X Fault → Type 0) → Result X Failure → Type 0
WithFiles files answers (Ok value) = answers (Ok value)
WithFiles files answers (Err failure) = answers (Err failure.fault) × (failure.files ≡ files)

-- Lines. The conditionals that are open stand in a list, the innermost first.

abbrev pub innermost : List Open → Option Open
innermost [] = None
innermost (one ∷ opens) = Some one

-- the conditionals after a line on this place that does this
abbrev pub opens_after : Mark → Act → List Open → List Open
opens_after mark (Begin first) opens = record { mark = mark; part = first; is_last = false } ∷ opens
opens_after mark (Turn next is_last) [] = []
opens_after mark (Turn next is_last) (one ∷ opens) = record { mark = one.mark; part = next; is_last = is_last } ∷ opens
opens_after mark End [] = []
opens_after mark End (one ∷ opens) = opens
opens_after mark other opens = opens

abbrev pub state_after : Act → State → State
state_after (Put tokens) s = record s { tokens = s.tokens ++ tokens }
state_after (Set word body) s = record s { live = put (str_to_ascii_lowercase word.bytes) (option_map shapes_of body) s.live }
state_after other s = s

-- how files are included: a name, the place of its line and what was read before, and what is read after the file
abbrev pub Includes : Type 1
Includes = List ℕ → Mark → State → Result State Failure → Type 0

-- after what a line does, the conditionals and what was read
abbrev pub Follows : Includes → Mark → Act → List Open → State → Result (List Open × State) Failure → Type 0
Follows Reads mark (Include name) opens s = Then (Reads name mark s) (λ after answer. answer ≡ Ok (opens, after))
Follows Reads mark act opens s = λ answer. answer ≡ Ok (opens_after mark act opens, state_after act s)

abbrev pub LineGoes : Includes → Tool → RawLine → List Open → State → Result (List Open × State) Failure → Type 0
LineGoes Reads tool line opens s =
    Then (WithFiles s.files (Does s.live tool (innermost opens) line)) (λ act. Follows Reads line.mark act opens s)

-- after the last line: 105 where a conditional is open
abbrev pub open_if : Open → Fault
open_if one = record { number = 105; mark = Some one.mark; kept = NothingKept }

abbrev pub ends : List Open → State → Result State Failure
ends [] s = Ok s
ends (one ∷ opens) s = fails (open_if one) s

-- the lines of a file from some line on, and how they end: with the file, or with the fault of an open comment
abbrev pub LinesGo : Includes → Tool → List RawLine → Option Fault → List Open → State → Result State Failure → Type 0
LinesGo Reads tool [] None opens s answer = answer ≡ ends opens s
LinesGo Reads tool [] (Some open_comment) opens s answer = answer ≡ fails open_comment s
LinesGo Reads tool (line ∷ lines) ending opens s answer =
    Then (LineGoes Reads tool line opens s) (λ next. LinesGo Reads tool lines ending next.0 next.1) answer

-- the joined text of a file at this position of the list of files
abbrev pub AheadGoes : Includes → Tool → ℕ → List Placed → State → Result State Failure → Type 0
AheadGoes Reads tool file ahead s answer =
    (lines : List RawLine) × (ending : Option Fault) × HasLines file ahead lines ending × LinesGo Reads tool lines ending [] s answer

-- the text of a file
abbrev pub TextGoes : Includes → Tool → ℕ → List ℕ → State → Result State Failure → Type 0
TextGoes Reads tool file text s answer = AheadGoes Reads tool file (joined 1 text) s answer

-- Files.

-- 102, on the first line of the file, with the offset of what can't be turned into Mac Roman
abbrev pub bad_text : ℕ → ℕ → Fault
bad_text file offset = record { number = 102; mark = Some (record { file = file; line = 1 }); kept = Number (pos offset) }

abbrev pub HasText : ℕ → List ℕ → Result (List ℕ) Fault → Type 0
HasText file source (Ok text) = IsTextOf source text
HasText file source (Err fault) = (offset : ℕ) × IsBadAt source offset × (fault ≡ bad_text file offset)

abbrev pub with_file : List ℕ → State → State
with_file name s = record s { files = s.files ++ name ∷ [] }

-- the text of the file that was found, and what was read so far with the file's name
abbrev pub OpensAs : Fault → State → Option (List ℕ × List ℕ) → Result (List ℕ × State) Failure → Type 0
OpensAs missing s None = λ answer. answer ≡ fails missing s
OpensAs missing s (Some found) =
    Then (WithFiles (s.files ++ found.0 ∷ []) (HasText (length s.files) found.1)) (λ text answer. answer ≡ Ok (text, with_file found.0 s))

abbrev pub Opens : Files → List (List ℕ) → Fault → State → Result (List ℕ × State) Failure → Type 0
Opens files names missing s = OpensAs missing s (file_of files names)

-- 103, on the line that includes a file on level 17
abbrev pub too_deep : Mark → Fault
too_deep mark = record { number = 103; mark = Some mark; kept = Number (pos 17) }

abbrev pub Enters : Files → List (List ℕ) → ℕ → List ℕ → Mark → State → Result (List ℕ × State) Failure → Type 0
Enters files paths zero name mark s = λ answer. answer ≡ fails (too_deep mark) s
Enters files paths (suc levels) name mark s = Opens files (names_of paths (utf8_name name)) (missing_file (Some mark) name) s

-- an included file, where files may stand so many levels deeper than the line that includes it
abbrev pub IncludedGoes : Tool → Files → List (List ℕ) → ℕ → Includes
IncludedGoes tool files paths zero name mark s answer = answer ≡ fails (too_deep mark) s
IncludedGoes tool files paths (suc levels) name mark s answer =
    Then (Enters files paths (suc levels) name mark s)
    (λ opened. TextGoes (IncludedGoes tool files paths levels) tool (length s.files) opened.0 opened.1) answer

-- Programs.

-- a file that the words name is on level 1
abbrev pub levels_below : ℕ
levels_below = 15

abbrev pub NamedGoes : Tool → Files → List (List ℕ) → List ℕ → State → Result State Failure → Type 0
NamedGoes tool files paths name s =
    Then (Opens files (name ∷ []) (missing_file None name) s)
    (λ opened. TextGoes (IncludedGoes tool files paths levels_below) tool (length s.files) opened.0 opened.1)

-- the named files, one after the other
abbrev pub NamesGo : Tool → Files → List (List ℕ) → List (List ℕ) → State → Result State Failure → Type 0
NamesGo tool files paths [] s answer = answer ≡ Ok s
NamesGo tool files paths (name ∷ names) s answer =
    Then (NamedGoes tool files paths name s) (λ after. NamesGo tool files paths names after) answer

-- what the words define and undefine, in their order
abbrev pub nothing_live : Live
nothing_live name = None

abbrev pub live_after : List Def → Live → Live
live_after [] live = live
live_after (def ∷ defs) live = live_after defs (put (str_to_ascii_lowercase def.name.bytes) (option_map shapes_of def.text) live)

abbrev pub start : List Def → State
start defs = record { live = live_after defs nothing_live; tokens = []; files = [] }

-- what the files mean that the words name
abbrev pub ProgramGoes : Files → Tool → List (List ℕ) → List (List ℕ) → List Def → Result State Failure → Type 0
ProgramGoes files tool names paths defs = NamesGo tool files paths names (start defs)
