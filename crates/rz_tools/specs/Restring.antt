-- What `restring` means: the file of a fork with the texts of a catalogue in the place of those of its resources, under
-- the types that the type files declare.
use Rattle.std.specs.Prelude.{◌≡◌, ℕ, Bool, false, List, [], ◌∷◌, ◌++◌, codes, drop, get_or, length, unwrap_or, Option, Some, None, Err}
use Rattle.std.specs.FinMap as map
use Rattle.std.specs.declared.result.Result.{Result}
use Rattle.rz_bridge_files.specs.declared.form.Form.{Form}
use Rattle.rz_catalog.specs.Apply.{Applied}
use Rattle.rz_catalog_text.specs.declared.entry.Entry.{Entry}
use Rattle.rz_catalog_text.specs.Source.{HasEntries}
use Rattle.rz_core.specs.Answers.{Then}
use Rattle.rz_core.specs.declared.fault.Fault.{Fault}
use Rattle.rz_core.specs.declared.moment.Moment.{Moment}
use Rattle.rz_folder.specs.Folder.{Files}
use Rattle.rz_folder.specs.Names.{missing_file}
use Rattle.rz_tools_answer.specs.Answer.{Answer, Answered, Making, written}
use Rattle.rz_tools_answer.specs.declared.made.Failing.{Failing}
use Rattle.rz_tools_args.specs.Command.{places_of, IsCommand, Item}
use Rattle.rz_tools_args.specs.Items.{forms_of, has, last, names_of}
use Rattle.rz_tools_args.specs.declared.flag.Flag.TheVariants as flags
use Rattle.rz_tools_args.specs.declared.flag.Switch.TheVariants as switches
use Rattle.rz_tools_args.specs.declared.name.CommandName.TheVariants as names
use Rattle.rz_tools_output.specs.Base.{base_held, Base}
use Rattle.rz_tools_output.specs.Output.{IsOutput, Target}
use Rattle.rz_tools.specs.Sources.{Compiled, SaidBeside}
use Rattle.rz_tools.specs.Types.{types_items, TypesAre, TypesAsked}
use Rattle.rz_types_table.specs.Table.{Declaration}

-- What it is asked for: the fork and the form of its file, the catalogue, whether texts of protected resources may be
-- changed, the name of the file to write, and the type files.
pub record RestringAsked : Type 0 where
  pub file : List ℕ
  pub from : Option Form
  pub catalogue : List ℕ
  pub over : Bool
  pub output : List ℕ
  pub types : TypesAsked

-- the first file is the fork, the second the catalogue, and the others are type files
abbrev pub restring_asked : List Item → RestringAsked
restring_asked items = record {
  file = get_or (places_of items) 0 [];
  from = last (forms_of flags.From items);
  catalogue = get_or (places_of items) 1 [];
  over = has switches.Over items;
  output = unwrap_or (last (names_of flags.Output items)) (codes "Rez.Out");
  types = types_items (drop 2 (places_of items)) items;
}

-- the words are `restring`, and ask for this
abbrev pub IsRestring : List (List ℕ) → RestringAsked → Type 0
IsRestring words asked = (items : List Item) × IsCommand words (record { name = names.Restring; items = items }) × (asked ≡ restring_asked items)

-- What it means.

-- the file of this name, of the form, the type and the creator that the fork's file has
abbrev pub target_named : List ℕ → Target
target_named name = record { name = name; form = None; kind = None; creator = None; read_only = false }

-- the entries of the catalogue that its name holds, which stands at this position of the list of files; 101 where there
-- is none
abbrev pub HasCatalogueFile : ℕ → List ℕ → Option (List ℕ) → Result (List Entry) Fault → Type 0
HasCatalogueFile file name None answer = answer ≡ Err (missing_file None name)
HasCatalogueFile file name (Some source) answer = HasEntries file source answer

-- the file of the resources with the texts of the entries in place
abbrev pub IsChangedBy : Moment → List Declaration → RestringAsked → Base → List Entry → Result (List ℕ) Fault → Type 0
IsChangedBy moment types asked base entries =
    Then (Applied types moment asked.over base.fork.list entries) (IsOutput (target_named asked.output) moment base)

-- what the fork's file holds, then the entries of the catalogue after so many files, and then the file that is written
abbrev pub IsRestrungUnder : Moment → List Declaration → ℕ → RestringAsked → Files → Result (List ℕ) Fault → Type 0
IsRestrungUnder moment types file asked files =
    Then (λ base. base_held asked.from asked.file (map.get files asked.file) ≡ base) (λ base.
    Then (HasCatalogueFile file asked.catalogue (map.get files asked.catalogue)) (IsChangedBy moment types asked base))

-- the catalogue is a file after those that were opened
abbrev pub with_file : Compiled → List ℕ → Compiled
with_file compiled name = record compiled { files = compiled.files ++ name ∷ [] }

abbrev pub HasRestrung : Moment → RestringAsked → Files → Compiled → Result Making Failing → Type 0
HasRestrung moment asked files compiled =
    SaidBeside (with_file compiled asked.catalogue) (IsRestrungUnder moment compiled.work.types (length compiled.files) asked files)

abbrev pub Restrings : Moment → RestringAsked → Files → Result Making Failing → Type 0
Restrings moment asked files = Then (TypesAre moment asked.types files) (HasRestrung moment asked files)

-- the file is written, or the fault ends the run
abbrev pub AnswersRestring : RestringAsked → Files → Moment → Answer → Type 0
AnswersRestring asked files moment = Answered (written asked.output) (Restrings moment asked files)
