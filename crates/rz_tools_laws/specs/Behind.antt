-- A text after the sources that declare its types, as the two commands read and write it. (MPW Rez; MPW DeRez.)
use Rattle.std.specs.Prelude.{◌≡◌, ℕ, Bool, true, false, List, [], ◌∷◌, ◌++◌, Ok, Some}
use Rattle.std.specs.FinMap as finite
use Rattle.std.specs.List.{AllByRecursion}
use Rattle.std.specs.declared.result.Result.{Result}
use Rattle.rz_core.specs.declared.fault.Fault.{Fault}
use Rattle.rz_core.specs.declared.moment.Moment.{Moment}
use Rattle.rz_core.specs.declared.resource.Resource.{Resource}
use Rattle.rz_bridge_files.specs.declared.form.Form.TheVariants.{Raw}
use Rattle.rz_folder.specs.Folder.{Files}
use Rattle.rz_lex.specs.declared.token.Token.{Token}
use Rattle.rz_pre.specs.Program.{ProgramGoes, State}
use Rattle.rz_pre.specs.declared.condition.Tool.{Tool}
use Rattle.rz_pre.specs.declared.program.Def.{Def}
use Rattle.rz_pre_laws.specs.Tools.{AsksNoTool, NameNoTool}
use Rattle.rz_stmt.specs.Grammar.{Compiles, Data, Declares, Empty, Lists, Parses, Statement}
use Rattle.rz_stmt.specs.Statements.{AreStatements}
use Rattle.rz_tools.specs.Program.{Answers}
use Rattle.rz_tools.specs.DeRez.{DeRezAsked}
use Rattle.rz_tools.specs.Rez.{around_of, IsRez, RezAsked}
use Rattle.rz_tools_text.specs.Shown.{Known}
use Rattle.rz_tools.specs.Sources.{AreCompiled, Compiled}
use Rattle.rz_tools.specs.Types.{TypesAre, TypesAsked}
use Rattle.rz_tools_answer.specs.Answer.{or_refused, written}
use Rattle.rz_tools_answer.specs.Warning.{said_beside}
use Rattle.rz_tools_output.specs.Base.{new_base}
use Rattle.rz_tools_output.specs.Output.{form_asked, IsOutput}
use Rattle.rz_tools_output.specs.Templates.{TypesOf}
use Rattle.rz_tools_work.specs.Work.{begun}
use Rattle.rz_types_table.specs.Table.{Declaration}

-- Sources that a text stands after.

-- after the sources these types are declared, and these names are macros
pub record IsKnown (compiled : Compiled) (known : Known) : Type 0 where
  pub types : compiled.work.types ≡ known.types
  pub macros : (name : List ℕ) → compiled.is_macro name ≡ known.is_macro name

-- what the sources made, and after them a file of this name that makes these resources and nothing else
abbrev pub with_file : Compiled → List ℕ → List Resource → Compiled
with_file compiled name list = record {
  work = record { types = compiled.work.types; list = list; warnings = compiled.work.warnings };
  is_macro = compiled.is_macro;
  files = compiled.files ++ name ∷ [];
}

-- the answer to words that are `rez` without `-a`, with these sources and then this file: the file of the resources, or
-- the fault of what such a file may hold, with the warnings of the sources
abbrev pub IsAnswerBehind : List (List ℕ) → RezAsked → Files → Moment → List ℕ → Compiled → List Resource → Type 0
IsAnswerBehind words asked files moment name compiled list =
    (output : Result (List ℕ) Fault) → IsOutput asked.target moment new_base list output
    → Answers words files moment (or_refused (written asked.target.name) (said_beside (compiled.files ++ name ∷ []) compiled.work.warnings output))

-- so it is for a file of this text, after whatever sources declare the types that are known, with those of a file of
-- templates or without, and make no resource, where the same names are macros after them and the moment is the same
abbrev pub CompilesBehind : Known → List ℕ → List Resource → Type 0
CompilesBehind known text list =
    (words : List (List ℕ)) (asked : RezAsked) (files : Files) (declared : List Declaration) (types : List (List ℕ)) (name : List ℕ) (compiled : Compiled)
    → IsRez words asked → asked.append ≡ false → TypesOf asked.tmpl files (Ok declared) → asked.files ≡ types ++ name ∷ [] → finite.get files name ≡ Some text
    → AreCompiled (around_of known.moment asked files) (begun declared []) types asked.paths asked.defs (Ok compiled) → compiled.work.list ≡ [] → IsKnown compiled known
    → IsAnswerBehind words asked files known.moment name compiled list

-- Sources that mean the same to both tools.

-- a `type` statement, or an empty one
abbrev pub only_declares : Statement → Bool
only_declares Empty = true
only_declares (Declares one) = true
only_declares (Data raw) = false
only_declares (Lists one) = false
only_declares (Compiles one) = false

-- each of the statements is one, if it is a statement
abbrev pub OnlyDeclare : List (List Token) → Type 0
OnlyDeclare statements = AllByRecursion (λ tokens. (statement : Statement) → Parses tokens (Ok statement) → only_declares statement ≡ true) statements

-- The sources have no statements but `type`, and don't ask which tool reads them: neither a condition that is asked nor
-- a statement has one of the words `rez` and `derez`, once macros are replaced.
pub record AreTypesAlone (files : Files) (tool : Tool) (names paths : List (List ℕ)) (defs : List Def) : Type 0 where
  pub asks_none : AsksNoTool files tool names paths defs
  pub names_none : (program : State) → ProgramGoes files tool names paths defs (Ok program) → NameNoTool program.tokens
  pub only_types : (program : State) (statements : List (List Token)) → ProgramGoes files tool names paths defs (Ok program)
      → AreStatements program.tokens statements → OnlyDeclare statements

-- what sources made, with these warnings in place of theirs
abbrev pub with_warnings : Compiled → List Fault → Compiled
with_warnings compiled warnings = record {
  work = record { types = compiled.work.types; list = compiled.work.list; warnings = warnings };
  is_macro = compiled.is_macro;
  files = compiled.files;
}

-- what the type files mean over some files they mean over these others
abbrev pub TypesStay : Moment → TypesAsked → Files → Files → Type 0
TypesStay moment asked files others =
    (compiled : Compiled) → TypesAre moment asked files (Ok compiled) → TypesAre moment asked others (Ok compiled)

-- The same type files, paths, definitions and file of templates for `derez` and for `rez`, and after the type files of
-- `rez` a file of this name.
pub record ReadsBehind (shown : DeRezAsked) (asked : RezAsked) (name : List ℕ) : Type 0 where
  pub new : asked.append ≡ false
  pub files : asked.files ≡ shown.types.files ++ name ∷ []
  pub paths : asked.paths ≡ shown.types.paths
  pub defs : asked.defs ≡ shown.types.defs
  pub tmpl : asked.tmpl ≡ shown.types.tmpl

-- A fork that is written back.

-- all resources are shown: the words choose no types, and leave none out
pub record ShowsAll (shown : DeRezAsked) : Type 0 where
  pub only : shown.only ≡ []
  pub skip : shown.skip ≡ []

-- a new file is written raw, and its fork isn't made read only
pub record WritesRaw (asked : RezAsked) : Type 0 where
  pub form : form_asked asked.target new_base ≡ Raw
  pub free : asked.target.read_only ≡ false
