-- What `strings` means: under the types that the type files declare, the texts of the fork's resources as a catalogue.
use Rattle.std.specs.Prelude.{◌≡◌, ℕ, true, List, [], drop, get_or, Option, Some, None, Ok, Err}
use Rattle.std.specs.FinMap as map
use Rattle.std.specs.declared.result.Result.{Result}
use Rattle.rz_bridge_files.specs.Contents.{fork_in}
use Rattle.rz_bridge_files.specs.declared.form.Form.{Form}
use Rattle.rz_catalog.specs.Catalogue.{IsCatalogue}
use Rattle.rz_catalog_text.specs.declared.entry.Entry.{Entry}
use Rattle.rz_catalog_text.specs.Text.{entries_text}
use Rattle.rz_core.specs.Answers.{Then}
use Rattle.rz_core.specs.Stop.{◌>>=◌}
use Rattle.rz_core.specs.declared.fault.Fault.{Fault}
use Rattle.rz_core.specs.declared.moment.Moment.{Moment}
use Rattle.rz_folder.specs.Folder.{Files}
use Rattle.rz_folder.specs.Names.{missing_file}
use Rattle.rz_fork.specs.Contents.{Fork}
use Rattle.rz_tools_answer.specs.Answer.{Answer, Answered, Making, shown}
use Rattle.rz_tools_answer.specs.declared.made.Failing.{Failing}
use Rattle.rz_tools_args.specs.Command.{places_of, IsCommand, Item}
use Rattle.rz_tools_args.specs.Items.{forms_of, last}
use Rattle.rz_tools_args.specs.declared.flag.Flag.TheVariants as flags
use Rattle.rz_tools_args.specs.declared.name.CommandName.TheVariants as names
use Rattle.rz_tools_output.specs.Base.{limited}
use Rattle.rz_tools.specs.Sources.{Compiled, SaidBeside}
use Rattle.rz_tools.specs.Types.{types_items, TypesAre, TypesAsked}
use Rattle.rz_types_table.specs.Table.{Declaration}

-- What it is asked for: the fork and the form of its file, and the type files.
pub record StringsAsked : Type 0 where
  pub file : List ℕ
  pub from : Option Form
  pub types : TypesAsked

-- the first file is the fork, and the others are type files
abbrev pub strings_asked : List Item → StringsAsked
strings_asked items = record {
  file = get_or (places_of items) 0 [];
  from = last (forms_of flags.From items);
  types = types_items (drop 1 (places_of items)) items;
}

-- the words are `strings`, and ask for this
abbrev pub IsStrings : List (List ℕ) → StringsAsked → Type 0
IsStrings words asked = (items : List Item) × IsCommand words (record { name = names.Strings; items = items }) × (asked ≡ strings_asked items)

-- What it means.

-- the fork in the bytes of a file, none of whose resources is too long (301)
abbrev pub short_fork_in : Option Form → List ℕ → Result Fork Fault
short_fork_in from bytes = fork_in None from bytes >>= limited true

-- the catalogue of the resources of a fork as text, or the fault of its file
abbrev pub HasCatalogue : Moment → List Declaration → Result Fork Fault → Result (List ℕ) Fault → Type 0
HasCatalogue moment types (Ok fork) answer = (entries : List Entry) × IsCatalogue types moment fork.list entries × (answer ≡ Ok (entries_text entries))
HasCatalogue moment types (Err fault) answer = answer ≡ Err fault

-- that of the file that its name holds, in the form that the words give or that it has; 101 where there is none, and
-- 301 where a resource is too long
abbrev pub HasFileCatalogue : Moment → List Declaration → StringsAsked → Option (List ℕ) → Result (List ℕ) Fault → Type 0
HasFileCatalogue moment types asked None answer = answer ≡ Err (missing_file None asked.file)
HasFileCatalogue moment types asked (Some bytes) answer = HasCatalogue moment types (short_fork_in asked.from bytes) answer

-- and then the text, with the lines of the warnings
abbrev pub HasStrings : Moment → StringsAsked → Files → Compiled → Result Making Failing → Type 0
HasStrings moment asked files compiled = SaidBeside compiled (HasFileCatalogue moment compiled.work.types asked (map.get files asked.file))

abbrev pub Lists : Moment → StringsAsked → Files → Result Making Failing → Type 0
Lists moment asked files = Then (TypesAre moment asked.types files) (HasStrings moment asked files)

-- the text is written to the output, or the fault ends the run
abbrev pub AnswersStrings : StringsAsked → Files → Moment → Answer → Type 0
AnswersStrings asked files moment = Answered shown (Lists moment asked files)
