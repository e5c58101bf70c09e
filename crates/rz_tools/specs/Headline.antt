-- The headline of rezkit on one page: what a run promises, of what can be seen of the folder and the streams before and
-- after it.
use Rattle.std.specs.Prelude.{◌≡◌, ◌⊎◌, ℕ, List, IfSome}
use Rattle.rz_core.specs.declared.moment.Moment.{Moment}
use Rattle.rz_folder.specs.Folder.{Files}
use Rattle.rz_tools_args.specs.Command.{IsMisplaced}
use Rattle.rz_tools_answer.specs.Answer.{Answer}
use Rattle.rz_tools_answer.specs.Carried.{CarriesOut, EndsWith, IsAnswered, IsTriedOnce, IsUnhindered}
use Rattle.rz_tools_answer.specs.WellFormed.{IsWellFormed}
use Rattle.rz_tools_answer.specs.World.{ReadFailed, World, WriteFailed}
use Rattle.rz_tools_answer.specs.declared.outcome.Outcome.{Outcome}
use Rattle.rz_tools_answer.specs.declared.outcome.Outcome.TheVariants.{Done, NoMemory, Usage}
use Rattle.rz_tools.specs.Again.{ShowsAgain}
use Rattle.rz_tools.specs.Catalogues.{LeavesOthers, ListsBack}
use Rattle.rz_tools.specs.DeRez.{DeRezAsked, IsDeRez}
use Rattle.rz_tools.specs.Program.{Answers, IsOnlyAnswer, NeedNoFile}
use Rattle.rz_tools.specs.Restring.{IsRestring, RestringAsked}
use Rattle.rz_tools.specs.Strings.{IsStrings, StringsAsked}

-- A run: its words and its moment, what is seen before and after it, and how it ended.
pub record Run : Type 0 where
  pub words : List (List ℕ)
  pub moment : Moment
  pub before : World
  pub after : World
  pub result : Outcome

-- a read failed in the run, or a write of the folder or of the output
abbrev pub IsHindered : Run → Type 0
IsHindered run = ReadFailed run.before run.after ⊎ WriteFailed run.before run.after

-- 1. However the run ends, some answer is carried out, as far as the outcome says; it is the answer to the words where the
-- run ended as an answer does.
abbrev pub IsWhole : Run → Type 0
IsWhole run =
    (done : Answer) × IsWellFormed done × CarriesOut done run.before run.after run.result
    × (IsAnswered run.result → IfSome run.before.files (λ files. Answers run.words files run.moment done))

-- 2. The words have exactly one answer over these files, and however the run ended, that answer is carried out, as far as
-- the outcome says. An outcome of Done, Usage or Refused is the answer's, with all that it writes and says. Where no read
-- and no write failed, the run ended so, or for want of memory.
pub record IsExact (run : Run) (files : Files) : Type 0 where
  pub answer : Answer
  pub only : IsOnlyAnswer run.words files run.moment answer
  pub carried : CarriesOut answer run.before run.after run.result
  pub unhindered_outcome : IsUnhindered run.result → EndsWith answer run.before run.after run.result
  pub unhindered_run : (IsHindered run → ⊥) → (run.result ≡ NoMemory) ⊎ EndsWith answer run.before run.after run.result

-- 3. Usage comes only where the words are no command, and there always, but for want of memory.
pub record IsUsage (run : Run) (position : ℕ) : Type 0 where
  pub only : run.result ≡ Usage (record { position = position }) → IsMisplaced run.words position
  pub always : IsMisplaced run.words position → (run.result ≡ Usage (record { position = position })) ⊎ (run.result ≡ NoMemory)

-- 4. What `derez` shows means its resources again to `rez`; what `strings` lists puts them back; `restring` changes texts
-- alone.
pub record IsInverse (run : Run) (files : Files) : Type 0 where
  pub derez : (asked : DeRezAsked) → IsDeRez run.words asked → ShowsAgain run.moment asked files run.before.out run.after.out
  pub strings : (asked : StringsAsked) → IsStrings run.words asked → ListsBack run.moment asked files run.before.out run.after.out
  pub restring : (asked : RestringAsked) → IsRestring run.words asked → LeavesOthers run.moment asked files run.after.files

-- The headline. Where the folder tells its files, the run is exact for them. Where it tells none, as the host's, words
-- that need no file are answered as they are over whatever files. An output that failed isn't tried again.
pub record Headline (run : Run) : Type 0 where
  pub whole : IsWhole run
  pub exact : IfSome run.before.files (IsExact run)
  pub fileless : NeedNoFile run.words → (files : Files) → IsExact run files
  pub usage : (position : ℕ) → IsUsage run position
  pub tried : IsTriedOnce run.before.out_faults run.after.out_faults run.result
  pub inverse : run.result ≡ Done → IfSome run.before.files (IsInverse run)
