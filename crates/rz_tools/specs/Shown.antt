-- What the calls that answer words promise beside the answer: where a run shows or lists a fork and is Done, its file
-- holds a fork of as few bytes as a file has.
use Rattle.std.specs.Prelude.{◌≡◌, ℕ, List, Option, IfSome}
use Rattle.std.specs.FinMap as finite
use Rattle.rz_bridge_files.specs.declared.form.Form.{Form}
use Rattle.rz_core.specs.declared.moment.Moment.{Moment}
use Rattle.rz_folder.specs.Folder.{Files}
use Rattle.rz_tools.specs.Again.{HoldsFile}
use Rattle.rz_tools.specs.DeRez.{derez_asked}
use Rattle.rz_tools.specs.Program.{Answers, AnswersTo}
use Rattle.rz_tools.specs.Strings.{strings_asked}
use Rattle.rz_tools_answer.specs.Answer.{Answer}
use Rattle.rz_tools_answer.specs.declared.outcome.Outcome.TheVariants.{Done}
use Rattle.rz_tools_args.specs.Command.{Asked, IsCommand, Item}
use Rattle.rz_tools_args.specs.declared.name.CommandName.{CommandName}
use Rattle.rz_tools_args.specs.declared.name.CommandName.TheVariants as names

-- an answer that is Done shows the fork of such a file
abbrev pub ShowsFile : List ℕ → Option Form → Files → Answer → Type 0
ShowsFile name form files answer = answer.outcome ≡ Done → IfSome (finite.get files name) (HoldsFile form)

abbrev pub ShowsIts : CommandName → List Item → Files → Answer → Type 0
ShowsIts names.DeRez items = ShowsFile (derez_asked items).file (derez_asked items).from
ShowsIts names.Strings items = ShowsFile (strings_asked items).file (strings_asked items).from
ShowsIts name items = λ files answer. Unit {0}

-- the answer to a command, and this
abbrev pub AnswersCommand : Asked → Moment → Files → Answer → Type 0
AnswersCommand asked moment files answer = AnswersTo asked files moment answer × ShowsIts asked.name asked.items files answer

-- the answer to words, and this of the command that they are
abbrev pub AnswersWords : List (List ℕ) → Moment → Files → Answer → Type 0
AnswersWords words moment files answer =
    Answers words files moment answer × ((asked : Asked) → IsCommand words asked → ShowsIts asked.name asked.items files answer)
