-- Which files sources can ask for: those that the words name, and those that a line of such a file includes. (MPW Rez.)
use Rattle.std.specs.Prelude.{◌≡◌, ℕ, List, ◌∷◌, ◌++◌, Option, Some, Ok}
use Rattle.std.specs.FinMap as finite
use Rattle.rz_folder.specs.Folder.{Files}
use Rattle.rz_folder.specs.Names.{LooksFor}
use Rattle.rz_lex.specs.Joined.{joined}
use Rattle.rz_lex.specs.Lines.{HasLines}
use Rattle.rz_lex.specs.declared.joined.Placed.{Placed}
use Rattle.rz_lex.specs.declared.raw_line.RawLine.{RawLine}
use Rattle.rz_core.specs.declared.fault.Fault.{Fault}
use Rattle.rz_pre_source.specs.Source.{IsTextOf}
use Rattle.rz_pre.specs.Line.{Does}
use Rattle.rz_pre.specs.Live.{Live}
use Rattle.rz_pre.specs.declared.act.Act.TheVariants.{Include}
use Rattle.rz_pre.specs.declared.condition.Tool.{Tool}
use Rattle.rz_pre.specs.declared.conditional.Open.{Open}

-- the line is one of the joined text of a file, at this position of the list of files
abbrev pub HasLine : ℕ → List Placed → RawLine → Type 0
HasLine file text line =
    (before : List RawLine) × (after : List RawLine) × (ending : Option Fault) × HasLines file text (before ++ line ∷ after) ending

-- the line includes the file of this name, for some tool, and for some words that are macros and some conditional
-- around it
abbrev pub CanInclude : RawLine → List ℕ → Type 0
CanInclude line own = (live : Live) × (tool : Tool) × (around : Option Open) × Does live tool around line (Ok (Include own))

-- a line of the text includes the file of this name
abbrev pub IncludesFile : ℕ → List Placed → List ℕ → Type 0
IncludesFile file text own = (line : RawLine) × HasLine file text line × CanInclude line own

-- one of the names under which a file is looked for that a line of the text includes
abbrev pub IsIncluded : List (List ℕ) → ℕ → List Placed → List ℕ → Type 0
IsIncluded paths file text = LooksFor paths (IncludesFile file text)

-- the file of this name has this text in Mac Roman
abbrev pub HoldsText : Files → List ℕ → List ℕ → Type 0
HoldsText files name text = (source : List ℕ) × (finite.get files name ≡ Some source) × IsTextOf source text

-- The least set that has some first names and, for each name in it, those under which the files are looked for that a
-- line of its file includes.
pub data IsReached (paths : List (List ℕ)) (files : Files) (First : List ℕ → Type 0) : List ℕ → Type 0 where
  begins : (name : List ℕ) → First name → IsReached paths files First name
  goes_on : (name opened text : List ℕ) (file : ℕ) → IsReached paths files First opened → HoldsText files opened text
      → IsIncluded paths file (joined 1 text) name → IsReached paths files First name
