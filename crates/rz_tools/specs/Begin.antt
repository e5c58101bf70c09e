-- What the program does with what its process is given. It is said of what can be seen of the folder and the streams
-- before and after it, and of its exit status.
use Rattle.std.specs.Prelude.{◌≡◌, ℕ, List, Option, Some, None, IfSome}
use Rattle.rz_core.specs.declared.moment.Moment.{Moment}
use Rattle.rz_folder.specs.Folder.{Files}
use Rattle.rz_tools_answer.specs.Outcome.{status_of}
use Rattle.rz_tools_answer.specs.World.{SaysText, World}
use Rattle.rz_tools_answer.specs.declared.outcome.Outcome.{Outcome}
use Rattle.rz_tools_host.specs.Given.{words_of, BeginsWith, Hinders}
use Rattle.rz_tools_host.specs.Hindrance as hindrance
use Rattle.rz_tools_host.specs.Process.{Process}
use Rattle.rz_tools_host.specs.declared.hindrance.Hindrance.{Hindrance}
use Rattle.rz_tools.specs.Asked.{WordsAsk}
use Rattle.rz_tools.specs.Headline.{Headline}

-- nothing is touched but the sink of messages, which gets this line
pub record OnlySays (line : List ℕ) (before after : World) : Type 0 where
  pub untouched : after ≡ record before { err = after.err; err_faults = after.err_faults }
  pub says : SaysText line before after

-- The program runs the words at the moment that its process is given, as the headline says, and its status is that of
-- the outcome; or its process is given none, and it says why. Where the host doesn't tell what the process is given,
-- these are some words at some moment, or some hindrance.
pub data Begins (process : Option Process) (before after : World) (status : ℕ) : Type 0 where
  runs : (words : List (List ℕ)) (moment : Moment) (result : Outcome) → IfSome process (λ process. BeginsWith process words moment)
      → Headline (record { words = words; moment = moment; before = before; after = after; result = result }) → status ≡ status_of result
      → Begins process before after status
  hindered : (why : Hindrance) → IfSome process (λ process. Hinders process why) → OnlySays (hindrance.line_of why) before after
      → status ≡ hindrance.status_of why → Begins process before after status

-- which files the words of a process ask for; where the host doesn't tell them, all names
abbrev pub ProcessAsks : Option Process → Files → List ℕ → Type 0
ProcessAsks None files name = Unit {0}
ProcessAsks (Some process) files name = WordsAsk (words_of process.args) files name
