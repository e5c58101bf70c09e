-- A catalogue that `strings` wrote, put back by `restring`.
use Rattle.std.specs.Prelude.{◌≡◌, ℕ, List, [], ◌∷◌, ◌++◌}
use Rattle.std.specs.declared.result.Result.{Result}
use Rattle.rz_catalog.specs.Own.{own_answer}
use Rattle.rz_catalog_text.specs.declared.entry.Entry.{Entry}
use Rattle.rz_core.specs.Answers.{Then}
use Rattle.rz_core.specs.declared.fault.Fault.{Fault}
use Rattle.rz_core.specs.declared.moment.Moment.{Moment}
use Rattle.rz_folder.specs.Folder.{Files}
use Rattle.rz_tools.specs.Program.{Answers}
use Rattle.rz_tools.specs.Restring.{target_named, RestringAsked}
use Rattle.rz_tools.specs.Sources.{Compiled}
use Rattle.rz_tools.specs.Strings.{StringsAsked}
use Rattle.rz_tools_answer.specs.Answer.{or_refused, written}
use Rattle.rz_tools_answer.specs.Warning.{said_beside}
use Rattle.rz_tools_output.specs.Base.{Base}
use Rattle.rz_tools_output.specs.Output.{IsOutput}

-- the same fork, in the same form, under the same type files
pub record IsOfSame (listed : StringsAsked) (asked : RestringAsked) : Type 0 where
  pub file : asked.file ≡ listed.file
  pub from : asked.from ≡ listed.from
  pub types : asked.types ≡ listed.types

-- the answer to words that are `restring`: the file of the same resources as there were, or the refusal of the first
-- entry for a protected one where these may not be changed, or the fault of what such a file may hold, with the
-- warnings of the type files
abbrev pub IsAnswerAgain : List (List ℕ) → RestringAsked → Files → Moment → Compiled → Base → List Entry → Type 0
IsAnswerAgain words asked files moment compiled base entries =
    (output : Result (List ℕ) Fault) → Then (λ list. list ≡ own_answer asked.over base.fork.list entries) (IsOutput (target_named asked.output) moment base) output
    → Answers words files moment (or_refused (written asked.output) (said_beside (compiled.files ++ asked.catalogue ∷ []) compiled.work.warnings output))
