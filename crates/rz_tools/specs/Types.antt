-- What type files mean: the types that they declare, under which resources are shown. (MPW DeRez.)
use Rattle.std.specs.Prelude.{ℕ, Bool, false, List, [], Option}
use Rattle.std.specs.declared.result.Result.{Result}
use Rattle.rz_core.specs.Answers.{Then}
use Rattle.rz_core.specs.declared.moment.Moment.{Moment}
use Rattle.rz_folder.specs.Folder.{Files}
use Rattle.rz_pre.specs.Program.{State}
use Rattle.rz_pre.specs.declared.condition.Tool.TheVariants as tools
use Rattle.rz_pre.specs.declared.program.Def.{Def}
use Rattle.rz_tools_answer.specs.declared.made.Failing.{Failing}
use Rattle.rz_tools_args.specs.Command.{Item}
use Rattle.rz_tools_args.specs.Items.{defs_of, has, last, names_of}
use Rattle.rz_tools_args.specs.declared.flag.Flag.TheVariants as flags
use Rattle.rz_tools_args.specs.declared.flag.Switch.TheVariants as switches
use Rattle.rz_tools_text.specs.Shown.{Known}
use Rattle.rz_tools_values.specs.Around.{Around}
use Rattle.rz_tools_values.specs.declared.setting.Setting.{Setting}
use Rattle.rz_tools_work.specs.Work.{begun}
use Rattle.rz_tools_output.specs.Templates.{TypesOf}
use Rattle.rz_tools.specs.Sources.{Begins, Compiled, HasWork, IsProgramOf}

-- the type files, the paths for included files, and the definitions; the file of templates, where one is given; and
-- whether types may be declared again
pub record TypesAsked : Type 0 where
  pub files : List (List ℕ)
  pub paths : List (List ℕ)
  pub defs : List Def
  pub tmpl : Option (List ℕ)
  pub redeclare : Bool

-- what items ask for, where these are the type files
abbrev pub types_items : List (List ℕ) → List Item → TypesAsked
types_items files items = record {
  files = files;
  paths = names_of flags.Path items;
  defs = defs_of items;
  tmpl = last (names_of flags.Templates items);
  redeclare = has switches.Redeclare items;
}

-- what holds for all statements: what the words ask for, and the moment; no statement reads a file
abbrev pub types_setting : Moment → TypesAsked → Setting
types_setting moment asked = record { tool = tools.DeRez; redeclare = asked.redeclare; append = false; over = false; moment = moment }

abbrev pub types_around : Moment → TypesAsked → Files → Around
types_around moment asked files = record { setting = types_setting moment asked; paths = []; files = files }

-- what the statements of a program make, after the types that the file of templates declares and no resource
abbrev pub AreTyped : Moment → TypesAsked → Files → State → Result Compiled Failing → Type 0
AreTyped moment asked files program =
    Then (Begins program (TypesOf asked.tmpl files)) (λ types. HasWork (types_around moment asked files) (begun types []) program)

-- what the type files mean: their program, the types of the file of templates, and what the statements make; or the
-- first fault of these, in this order
abbrev pub TypesAre : Moment → TypesAsked → Files → Result Compiled Failing → Type 0
TypesAre moment asked files = Then (IsProgramOf (types_around moment asked files) asked.files asked.paths asked.defs) (AreTyped moment asked files)

-- what is known after the type files
abbrev pub known_by : Moment → Compiled → Known
known_by moment compiled = record { types = compiled.work.types; is_macro = compiled.is_macro; moment = moment }
