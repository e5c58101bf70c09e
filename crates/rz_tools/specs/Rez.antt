-- What `rez` means: the file of the resources that the sources make. (MPW Rez.)
use Rattle.std.specs.Prelude.{◌≡◌, ℕ, Bool, List, Option, unwrap_or, codes}
use Rattle.std.specs.declared.result.Result.{Result}
use Rattle.rz_core.specs.Answers.{Then}
use Rattle.rz_core.specs.declared.moment.Moment.{Moment}
use Rattle.rz_folder.specs.Folder.{Files}
use Rattle.rz_pre.specs.Program.{State}
use Rattle.rz_pre.specs.declared.condition.Tool.TheVariants as tools
use Rattle.rz_pre.specs.declared.program.Def.{Def}
use Rattle.rz_tools_args.specs.Command.{places_of, IsCommand, Item}
use Rattle.rz_tools_args.specs.Items.{defs_of, forms_of, has, kinds_of, last, names_of}
use Rattle.rz_tools_args.specs.declared.flag.Flag.TheVariants as flags
use Rattle.rz_tools_args.specs.declared.flag.Switch.TheVariants as switches
use Rattle.rz_tools_args.specs.declared.name.CommandName.TheVariants as names
use Rattle.rz_tools_answer.specs.Answer.{Answer, Answered, Making, written}
use Rattle.rz_tools_answer.specs.declared.made.Failing.{Failing}
use Rattle.rz_tools_values.specs.Around.{Around}
use Rattle.rz_tools_values.specs.declared.setting.Setting.{Setting}
use Rattle.rz_tools_output.specs.Base.{base_of, Base}
use Rattle.rz_tools_output.specs.Output.{IsOutput, Target}
use Rattle.rz_tools_work.specs.Work.{begun}
use Rattle.rz_tools_output.specs.Templates.{TypesOf}
use Rattle.rz_types_table.specs.Table.{Declaration}
use Rattle.rz_tools.specs.Sources.{Begins, Compiled, HasWork, IsProgramOf, SaidBeside}

-- What it is asked for.

-- The sources, the paths for included files and for the files of statements, and the definitions; the file of
-- templates, where one is given; whether types may be declared again, whether the fork starts from the file that has
-- the name of the file to write, whether protected resources may be replaced, changed and removed; and the file to
-- write.
pub record RezAsked : Type 0 where
  pub files : List (List ℕ)
  pub paths : List (List ℕ)
  pub searches : List (List ℕ)
  pub defs : List Def
  pub tmpl : Option (List ℕ)
  pub redeclare : Bool
  pub append : Bool
  pub over : Bool
  pub target : Target

-- the file to write: `Rez.Out` where the items name none
abbrev pub target_asked : List Item → Target
target_asked items = record {
  name = unwrap_or (last (names_of flags.Output items)) (codes "Rez.Out");
  form = last (forms_of flags.Into items);
  kind = last (kinds_of flags.Kind items);
  creator = last (kinds_of flags.Creator items);
  read_only = has switches.ReadOnly items;
}

abbrev pub rez_asked : List Item → RezAsked
rez_asked items = record {
  files = places_of items;
  paths = names_of flags.Path items;
  searches = names_of flags.Search items;
  defs = defs_of items;
  tmpl = last (names_of flags.Templates items);
  redeclare = has switches.Redeclare items;
  append = has switches.Append items;
  over = has switches.Over items;
  target = target_asked items;
}

-- the words are `rez`, and ask for this
abbrev pub IsRez : List (List ℕ) → RezAsked → Type 0
IsRez words asked = (items : List Item) × IsCommand words (record { name = names.Rez; items = items }) × (asked ≡ rez_asked items)

-- What it means.

-- what holds for all statements: what the words ask for, the moment and the files
abbrev pub setting_of : Moment → RezAsked → Setting
setting_of moment asked = record { tool = tools.Rez; redeclare = asked.redeclare; append = asked.append; over = asked.over; moment = moment }

abbrev pub around_of : Moment → RezAsked → Files → Around
around_of moment asked files = record { setting = setting_of moment asked; paths = asked.searches; files = files }

-- the file of what the statements made, with the lines of the warnings
abbrev pub HasOutput : Moment → Target → Base → Compiled → Result Making Failing → Type 0
HasOutput moment target base compiled = SaidBeside compiled (IsOutput target moment base compiled.work.list)

-- the file of what the statements of a program make, after the types and the resources to begin with
abbrev pub IsMadeBehind : Moment → RezAsked → Files → State → List Declaration → Base → Result Making Failing → Type 0
IsMadeBehind moment asked files program types base =
    Then (HasWork (around_of moment asked files) (begun types base.fork.list) program) (HasOutput moment asked.target base)

-- these resources: with `-a` those of the file of the output's name
abbrev pub IsMadeUnder : Moment → RezAsked → Files → State → List Declaration → Result Making Failing → Type 0
IsMadeUnder moment asked files program types =
    Then (Begins program (λ base. base_of asked.append asked.target.name files ≡ base)) (IsMadeBehind moment asked files program types)

-- and these types: those that the file of templates declares
abbrev pub IsMadeOf : Moment → RezAsked → Files → State → Result Making Failing → Type 0
IsMadeOf moment asked files program = Then (Begins program (TypesOf asked.tmpl files)) (IsMadeUnder moment asked files program)

-- The file that the sources mean: their program, the types of the file of templates, what else there is to begin with,
-- what the statements make of it, and the file of that; or the first fault of these, in this order.
abbrev pub Compiles : Moment → RezAsked → Files → Result Making Failing → Type 0
Compiles moment asked files =
    Then (IsProgramOf (around_of moment asked files) asked.files asked.paths asked.defs) (IsMadeOf moment asked files)

-- the file is written, or the fault ends the run
abbrev pub AnswersRez : RezAsked → Files → Moment → Answer → Type 0
AnswersRez asked files moment = Answered (written asked.target.name) (Compiles moment asked files)
