-- How a run ends that carries out an answer, and what it leaves.
use Rattle.std.specs.Prelude.{◌≡◌, ◌⊎◌, ℕ, ◌++◌, List, [], ◌∷◌, IfSome, IsSomeAnd, Ok, Err}
use Rattle.std.specs.declared.option.Option.TheVariants.{Some}
use Rattle.std.specs.declared.result.Result.{Result}
use Rattle.std.specs.FinMap as map
use Rattle.rz_core.specs.declared.stop.NoMemory.{NoMemory as NoMemoryAlone}
use Rattle.rz_folder.specs.Counts.{next}
use Rattle.rz_folder.specs.Sink.{GotFront, GotPart, IsOut, Told}
use Rattle.rz_folder.specs.declared.sink.Put.{Put}
use Rattle.rz_folder.specs.declared.sink.Put.TheVariants as puts
use Rattle.rz_tools_answer.specs.Answer.{count_after, files_after, Answer, Write}
use Rattle.rz_tools_answer.specs.Message.{no_memory_line, read_fault_line, write_fault_line}
use Rattle.rz_tools_answer.specs.World.{ReadFailed, Says, SaysText, World, WriteFailed}
use Rattle.rz_tools_answer.specs.declared.outcome.Outcome.{Outcome}
use Rattle.rz_tools_answer.specs.declared.outcome.Outcome.TheVariants.{Done, Usage, Refused, ReadFault, WriteFault, NoMemory}

-- What an outcome leaves.

-- nothing is written, and no write was tried
pub record IsUntouched (before after : World) : Type 0 where
  pub files : after.files ≡ before.files
  pub counted : after.writes ≡ before.writes
  pub out : after.out ≡ before.out

-- each file is written, in one write, and the text is out
pub record IsWritten (writes : List Write) (text : List ℕ) (before after : World) : Type 0 where
  pub files : IfSome before.files (λ files. after.files ≡ Some (files_after writes files))
  pub counted : after.writes ≡ count_after writes before.writes
  pub out : Told (IsOut text) before.out after.out

-- The write of one file failed: those before it are written, its name may hold anything, and all else is as before. Each
-- of the files before it and this one had one write, and there was no other.
pub record IsCutAt (done : List Write) (one : Write) (before after : World) : Type 0 where
  pub files : IfSome before.files (λ files. IsSomeAnd after.files (λ left. map.remove left one.name ≡ map.remove (files_after done files) one.name))
  pub counted : after.writes ≡ count_after (done ++ one ∷ []) before.writes
  pub out : after.out ≡ before.out

-- a write failed: of one of the files, or, after one write of each of them, of the text, of which a front was put by then
pub data IsPartlyWritten (writes : List Write) (text : List ℕ) (before after : World) : Type 0 where
  at_file : (done : List Write) (one : Write) (rest : List Write) → writes ≡ done ++ one ∷ rest → IsCutAt done one before after
      → IsPartlyWritten writes text before after
  at_text : IfSome before.files (λ files. after.files ≡ Some (files_after writes files)) → after.writes ≡ count_after writes before.writes
      → Told (GotFront text) before.out after.out → IsPartlyWritten writes text before after

-- memory was refused: before anything was put, or while this text was put, of which a front was put then and not the whole text
pub record IsCutShort (text : List ℕ) (before after : World) : Type 0 where
  pub files : after.files ≡ before.files
  pub counted : after.writes ≡ before.writes
  pub out : (after.out ≡ before.out) ⊎ Told (GotPart text) before.out after.out

-- How a run ends that carries out this answer, why, and what it leaves.
abbrev pub Ends : Answer → World → World → Outcome → Type 0
Ends answer before after Done = (answer.outcome ≡ Done) × IsWritten answer.writes answer.out before after
Ends answer before after (Usage fault) = (answer.outcome ≡ Usage fault) × IsUntouched before after
Ends answer before after (Refused fault) = (answer.outcome ≡ Refused fault) × IsUntouched before after
Ends answer before after ReadFault = ReadFailed before after × IsUntouched before after
Ends answer before after WriteFault = (answer.outcome ≡ Done) × WriteFailed before after × IsPartlyWritten answer.writes answer.out before after
Ends answer before after NoMemory = IsCutShort answer.out before after

-- What is said: the answer's text, after it the line of a write fault; or the line of a read fault alone. Where memory was
-- refused, it is the line of that alone if nothing of the text was put; if the text was being put, the answer's text comes
-- before the line.
abbrev pub SaysOf : Answer → World → World → Outcome → Type 0
SaysOf answer before after WriteFault = SaysText (answer.err ++ write_fault_line) before after
SaysOf answer before after ReadFault = SaysText read_fault_line before after
SaysOf answer before after NoMemory =
    ((after.out ≡ before.out) × SaysText no_memory_line before after)
    ⊎ ((answer.outcome ≡ Done) × Told (GotPart answer.out) before.out after.out × SaysText (answer.err ++ no_memory_line) before after)
SaysOf answer before after other = SaysText answer.err before after

-- A run that carries out an answer. It ends as the answer does, but for want of memory, a failed read, or a failed write
-- where the answer is Done.
pub record CarriesOut (answer : Answer) (before after : World) (result : Outcome) : Type 0 where
  pub ends : Ends answer before after result
  pub says : SaysOf answer before after result

-- What failed isn't tried again: the output counts as many faults as before, or, where a write failed, one more, of the last
-- call that it had.
abbrev pub IsTriedOnce : (before after : ℕ) → Outcome → Type 0
IsTriedOnce before after WriteFault = (after ≡ before) ⊎ (after ≡ next before)
IsTriedOnce before after other = after ≡ before

-- A text that is put piece by piece.

-- how a run ends of which the text was put so
abbrev pub end_of : Result Put NoMemoryAlone → Outcome
end_of (Ok puts.Done) = Done
end_of (Ok puts.Failed) = WriteFault
end_of (Err refused) = NoMemory

-- what it says then: this text, and after it the line of what went wrong
abbrev pub said_behind : Result Put NoMemoryAlone → List ℕ → List ℕ
said_behind (Ok puts.Done) said = said
said_behind (Ok puts.Failed) said = said ++ write_fault_line
said_behind (Err refused) said = said ++ no_memory_line

-- the run ended as its answer does, or a write of it failed
abbrev pub IsAnswered : Outcome → Type 0
IsAnswered ReadFault = ⊥
IsAnswered NoMemory = ⊥
IsAnswered other = Unit {0}

-- A run that met neither want of memory nor a fault of files.

abbrev pub IsUnhindered : Outcome → Type 0
IsUnhindered Done = Unit {0}
IsUnhindered (Usage fault) = Unit {0}
IsUnhindered (Refused fault) = Unit {0}
IsUnhindered other = ⊥

-- it ends exactly with its answer: with this outcome, these files written, each in one write, and no others changed, and these
-- texts out
pub record EndsWith (answer : Answer) (before after : World) (result : Outcome) : Type 0 where
  pub outcome : result ≡ answer.outcome
  pub files : IfSome before.files (λ files. after.files ≡ Some (files_after answer.writes files))
  pub counted : after.writes ≡ count_after answer.writes before.writes
  pub out : Told (IsOut answer.out) before.out after.out
  pub err : Says answer.err before.err after.err before.err_faults after.err_faults
