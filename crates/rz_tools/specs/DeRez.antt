-- What `derez` means: under the types that the type files declare, the text of the fork's resources. (MPW DeRez.)
use Rattle.std.specs.Prelude.{◌≡◌, ◌<◌, ◌^◌, ℕ, List, drop, length, get_or, Ok, Err, Option, Some, None, []}
use Rattle.std.specs.declared.result.Result.{Result}
use Rattle.std.specs.FinMap as map
use Rattle.rz_core.specs.Answers.{Then}
use Rattle.rz_core.specs.declared.fault.Fault.{Fault}
use Rattle.rz_core.specs.declared.moment.Moment.{Moment}
use Rattle.rz_core.specs.declared.resource.OsType.{OsType}
use Rattle.rz_folder.specs.Folder.{Files}
use Rattle.rz_bridge_files.specs.Contents.{fork_in}
use Rattle.rz_bridge_files.specs.declared.form.Form.{Form}
use Rattle.rz_fork.specs.Admit.{admitted}
use Rattle.rz_fork.specs.Contents.{Fork}
use Rattle.rz_folder.specs.Names.{missing_file}
use Rattle.rz_tools_answer.specs.Answer.{Answer, Answered, Making, shown}
use Rattle.rz_tools_answer.specs.declared.made.Failing.{Failing}
use Rattle.rz_tools_args.specs.Command.{places_of, IsCommand, Item}
use Rattle.rz_tools_args.specs.Items.{forms_of, kinds_of, last}
use Rattle.rz_tools_args.specs.declared.flag.Flag.TheVariants as flags
use Rattle.rz_tools_args.specs.declared.name.CommandName.TheVariants as names
use Rattle.rz_tools.specs.Sources.{Compiled, SaidBeside}
use Rattle.rz_tools.specs.Types.{known_by, types_items, TypesAre, TypesAsked}
use Rattle.rz_tools_text.specs.Chosen.{chosen}
use Rattle.rz_tools_text.specs.Shown.{Known}
use Rattle.rz_tools_text.specs.Text.{ShowsEach}

-- What it is asked for.

-- the fork and the form of its file, the types that alone are shown, where there are any, and those that aren't; and
-- the type files
pub record DeRezAsked : Type 0 where
  pub file : List ℕ
  pub from : Option Form
  pub only : List OsType
  pub skip : List OsType
  pub types : TypesAsked

-- the first file is the fork, and the others are type files
abbrev pub derez_asked : List Item → DeRezAsked
derez_asked items = record {
  file = get_or (places_of items) 0 [];
  from = last (forms_of flags.From items);
  only = kinds_of flags.Only items;
  skip = kinds_of flags.Skip items;
  types = types_items (drop 1 (places_of items)) items;
}

-- the words are `derez`, and ask for this
abbrev pub IsDeRez : List (List ℕ) → DeRezAsked → Type 0
IsDeRez words asked = (items : List Item) × IsCommand words (record { name = names.DeRez; items = items }) × (asked ≡ derez_asked items)

-- What it means.

-- the text of the resources of a fork that the words choose, or the fault of its file
abbrev pub HasForkText : Known → DeRezAsked → Result Fork Fault → Result (List ℕ) Fault → Type 0
HasForkText known asked (Ok fork) answer = (text : List ℕ) × ShowsEach known (chosen asked.only asked.skip fork.list) text × (answer ≡ Ok text)
HasForkText known asked (Err fault) answer = answer ≡ Err fault

-- the text of the fork of the file that its name holds, in the form that the words give or that it has; 101 where there
-- is none
abbrev pub HasFileText : Known → DeRezAsked → Option (List ℕ) → Result (List ℕ) Fault → Type 0
HasFileText known asked None answer = answer ≡ Err (missing_file None asked.file)
HasFileText known asked (Some bytes) answer = HasForkText known asked (fork_in None asked.from bytes) answer

-- bytes that are a fork
abbrev pub IsFork : List ℕ → Type 0
IsFork bytes = (length bytes < 2 ^ 32) × ((fork : Fork) × (admitted bytes ≡ Ok fork))

-- the bytes of a fork, or the fault of its file
abbrev pub IsForkOf : Result Fork Fault → Result (List ℕ) Fault → Type 0
IsForkOf held (Ok bytes) = (fork : Fork) × (admitted bytes ≡ Ok fork) × (held ≡ Ok fork)
IsForkOf held (Err fault) = held ≡ Err fault

-- those of the file that this name holds, in the form that is given or that it has; 101 where there is none
abbrev pub HasFork : Option Form → List ℕ → Option (List ℕ) → Result (List ℕ) Fault → Type 0
HasFork from name None answer = answer ≡ Err (missing_file None name)
HasFork from name (Some bytes) answer = IsForkOf (fork_in None from bytes) answer

-- and then the text of the fork, with the lines of the warnings
abbrev pub HasText : Moment → DeRezAsked → Files → Compiled → Result Making Failing → Type 0
HasText moment asked files compiled = SaidBeside compiled (HasFileText (known_by moment compiled) asked (map.get files asked.file))

abbrev pub Shows : Moment → DeRezAsked → Files → Result Making Failing → Type 0
Shows moment asked files = Then (TypesAre moment asked.types files) (HasText moment asked files)

-- the text is written to the output, or the fault ends the run
abbrev pub AnswersDeRez : DeRezAsked → Files → Moment → Answer → Type 0
AnswersDeRez asked files moment = Answered shown (Shows moment asked files)
