-- The text that DeRez writes, read by Rez.
use Rattle.std.specs.Prelude.{◌≡◌, ◌≤◌, ℕ, Bool, false, is_some, List, [], ◌∷◌, ◌++◌, length, Option, Some, None, Ok, IfOk, IfSome}
use Rattle.std.specs.FinMap as finite
use Rattle.std.specs.List.{AllByRecursion}
use Rattle.std.specs.declared.result.Result.{Result}
use Rattle.std.specs.Str.{str_to_ascii_lowercase}
use Rattle.rz_core.specs.declared.fault.Fault.{Fault}
use Rattle.rz_core.specs.declared.moment.Moment.{Moment}
use Rattle.rz_core.specs.declared.resource.Resource.{Resource}
use Rattle.rz_folder.specs.Folder.{Files}
use Rattle.rz_folder.specs.Sink.{IsOut, Stream, Told}
use Rattle.rz_bridge.specs.declared.file.MacFile.{MacFile}
use Rattle.rz_bridge_files.specs.Contents.{file_in, fork_in, IsFile}
use Rattle.rz_bridge_files.specs.declared.form.Form.{Form}
use Rattle.rz_fork.specs.Contents.{Fork}
use Rattle.rz_lex.specs.declared.token.Token.{Token}
use Rattle.rz_pre.specs.Live.{Live}
use Rattle.rz_pre.specs.Program.{NamedGoes, State}
use Rattle.rz_pre.specs.declared.condition.Tool.TheVariants as tools
use Rattle.rz_show_laws.specs.Statement.{shown_words}
use Rattle.rz_stmt.specs.Statements.{AreStatements}
use Rattle.rz_tools_values.specs.Contents.{most_bytes}
use Rattle.rz_tools_output.specs.Base.{new_base}
use Rattle.rz_tools.specs.DeRez.{DeRezAsked}
use Rattle.rz_tools.specs.Rez.{IsRez, RezAsked}
use Rattle.rz_tools.specs.Types.{known_by, TypesAre}
use Rattle.rz_tools.specs.Step.{Means}
use Rattle.rz_tools_values.specs.Around.{Around}
use Rattle.rz_tools_answer.specs.Answer.{or_refused, written}
use Rattle.rz_tools.specs.Program.{Answers}
use Rattle.rz_tools_output.specs.Output.{IsOutput}
use Rattle.rz_tools_text.specs.Shown.{Known}
use Rattle.rz_tools_answer.specs.Warning.{said_beside}
use Rattle.rz_tools.specs.Sources.{Compiled}
use Rattle.rz_tools_text.specs.Chosen.{chosen}

-- the words of statements and attributes are no macros, nor are `true` and `false`: they are reserved
abbrev pub SparesWords : (List ℕ → Bool) → Type 0
SparesWords is_macro = AllByRecursion (λ word. is_macro word ≡ false) shown_words

-- these are the names of the macros, in whatever case
abbrev pub HasMacros : (List ℕ → Bool) → Live → Type 0
HasMacros is_macro live = (name : List ℕ) → is_some (live (str_to_ascii_lowercase name)) ≡ is_macro name

-- the tokens mean these resources to Rez, where what is known is known: as statements, after the same declarations and
-- at the same moment, they make this list of nothing, declare nothing and are warned of nowhere
abbrev pub MeanResources : Known → List Token → List Resource → Type 0
MeanResources known tokens list =
    (statements : List (List Token)) × AreStatements tokens statements
    × ((around : Around) (warnings : List Fault) → around.setting.tool ≡ tools.Rez → around.setting.moment ≡ known.moment
    → Means around (record { types = known.types; list = []; warnings = warnings }) statements
    (Ok (record { types = known.types; list = list; warnings = warnings })))

-- a text means these resources to Rez, where so much is known: as a file of whatever name, after whatever was read
-- before with the same names of macros, it is read to its end, leaves all macros as they are, and its tokens mean the
-- resources
pub record MeansAgain (known : Known) (text : List ℕ) (list : List Resource) : Type 0 where
  pub read : (files : Files) (name : List ℕ) (paths : List (List ℕ)) (before : State) → finite.get files name ≡ Some text
      → HasMacros known.is_macro before.live
      → (tokens : List Token)
      × NamedGoes tools.Rez files paths name before (Ok (record { live = before.live; tokens = before.tokens ++ tokens; files = before.files ++ name ∷ [] }))
      × MeanResources known tokens list

-- each resource has at most as many bytes as Rez takes
abbrev pub AreShort : List Resource → Type 0
AreShort list = AllByRecursion (λ r. length r.bytes ≤ most_bytes) list

-- the answer to words that are `rez` with a file of this text as the one source, whatever else they ask for but to
-- begin with a file or with its templates: the file of the same resources, or the fault of what such a file may hold
abbrev pub CompilesAlone : List ℕ → List Resource → Type 0
CompilesAlone text list =
    (words : List (List ℕ)) (asked : RezAsked) (files : Files) (moment : Moment) (name : List ℕ) (output : Result (List ℕ) Fault)
    → IsRez words asked → asked.append ≡ false → asked.tmpl ≡ None → asked.files ≡ name ∷ [] → finite.get files name ≡ Some text
    → IsOutput asked.target moment new_base list output
    → Answers words files moment (or_refused (written asked.target.name) (said_beside (name ∷ []) [] output))

-- what bytes of a form hold has a fork of as few bytes as a file has
abbrev pub HoldsFile : Option Form → List ℕ → Type 0
HoldsFile form bytes = (file : MacFile) → file_in None form bytes [] ≡ Ok file → IsFile file.res_fork

-- the answer of a call that gives a value only of such a file
abbrev pub OfFile : {X E : Type 0} → Option Form → List ℕ → (Files → Result X E → Type 0) → Files → Result X E → Type 0
OfFile form name answers files answer = answers files answer × IfOk answer (λ value. IfSome (finite.get files name) (HoldsFile form))

-- where the fork's file holds such a fork, the type files mean something, and a text is out that under it means again
-- the resources that are shown
abbrev pub ShowsAgain : Moment → DeRezAsked → Files → Option Stream → Option Stream → Type 0
ShowsAgain moment asked files before after =
    (bytes : List ℕ) → finite.get files asked.file ≡ Some bytes → (fork : Fork) → fork_in None asked.from bytes ≡ Ok fork
    → AreShort (chosen asked.only asked.skip fork.list)
    → (compiled : Compiled) × (text : List ℕ) × TypesAre moment asked.types files (Ok compiled) × Told (IsOut text) before after
    × MeansAgain (known_by moment compiled) text (chosen asked.only asked.skip fork.list)
