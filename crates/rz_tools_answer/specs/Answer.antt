-- The answer to a command: how the run ends, and what it writes and says.
use Rattle.std.specs.Prelude.{◌≡◌, ℕ, List, [], ◌∷◌, ◌++◌, Ok, Err}
use Rattle.std.specs.declared.result.Result.{Result}
use Rattle.std.specs.FinMap as map
use Rattle.rz_core.specs.Message.{fault_line}
use Rattle.rz_folder.specs.Counts.{next}
use Rattle.rz_folder.specs.Folder.{Files}
use Rattle.rz_tools_answer.specs.Message.{usage_line}
use Rattle.rz_tools_answer.specs.declared.made.Failing.{Failing}
use Rattle.rz_tools_answer.specs.declared.outcome.Outcome.{Outcome}
use Rattle.rz_tools_answer.specs.declared.outcome.Outcome.TheVariants.{Done, Refused, Usage}

-- a file that is written: its name and its bytes
pub record Write : Type 0 where
  pub name : List ℕ
  pub bytes : List ℕ

-- outcome: Done, Usage or Refused. writes: the files that are written, one after the other. out, err: the texts for
-- standard output and standard error.
pub record Answer : Type 0 where
  pub outcome : Outcome
  pub writes : List Write
  pub out : List ℕ
  pub err : List ℕ

-- the files after writes
abbrev pub files_after : List Write → Files → Files
files_after [] files = files
files_after (write ∷ writes) files = files_after writes (map.insert files write.name write.bytes)

-- a folder's count of writes after these writes, one each
abbrev pub count_after : List Write → ℕ → ℕ
count_after [] count = count
count_after (write ∷ writes) count = count_after writes (next count)

-- what a command makes: bytes, and what is said beside them
pub record Making : Type 0 where
  pub bytes : List ℕ
  pub said : List ℕ

-- the words are no command; this is the position of the first word that is misplaced
abbrev pub misused : ℕ → Answer
misused position = record { outcome = Usage (record { position = position }); writes = []; out = []; err = usage_line position }

-- a rule is broken: nothing is written, and after what was said before it the line of the fault is said
abbrev pub refused : Failing → Answer
refused failing = record { outcome = Refused failing.fault; writes = []; out = []; err = failing.said ++ fault_line failing.files failing.fault }

-- the bytes are written to the file of this name
abbrev pub written : List ℕ → Making → Answer
written name making = record { outcome = Done; writes = record { name = name; bytes = making.bytes } ∷ []; out = []; err = making.said }

-- the bytes are text for the output
abbrev pub shown : Making → Answer
shown making = record { outcome = Done; writes = []; out = making.bytes; err = making.said }

-- what is done with what a command makes, or the refusal
abbrev pub or_refused : (Making → Answer) → Result Making Failing → Answer
or_refused done (Ok making) = done making
or_refused done (Err failing) = refused failing

-- the answer of a command that makes something, and does this with it
abbrev pub Answered : (Making → Answer) → (Result Making Failing → Type 0) → Answer → Type 0
Answered done Makes answer = (made : Result Making Failing) × Makes made × (answer ≡ or_refused done made)
