-- The answer that the code holds, and what its calls leave while they carry it out.
use Rattle.std.specs.Prelude.{◌≡◌, ℕ, ◌++◌, List, [], ◌∷◌, map, IfSome, IsSomeAnd}
use Rattle.std.specs.String.{string_bytes}
use Rattle.std.specs.declared.option.Option.{Option}
use Rattle.std.specs.declared.option.Option.TheVariants.{Some}
use Rattle.std.specs.FinMap as finite
use Rattle.rz_folder.specs.Folder.{Files}
use Rattle.rz_folder.specs.declared.folder.Written.{Written}
use Rattle.rz_folder.specs.declared.folder.Written.TheVariants as ends
use Rattle.rz_tools_answer.specs.Answer as answer
use Rattle.rz_core.specs.declared.stop.Halt.{Halt}
use Rattle.rz_core.specs.declared.stop.Halt.TheVariants as halts
use Rattle.rz_tools_answer.specs.Answer.{count_after, files_after, refused, Answer}
use Rattle.rz_tools_answer.specs.declared.made.Failing.{Failing}
use Rattle.rz_tools_answer.specs.declared.outcome.Outcome.{Outcome}
use Rattle.rz_tools_answer.specs.declared.outcome.Outcome.TheVariants.{Done, Refused}
use Rattle.rz_tools_answer.specs.declared.plan.Plan.{Plan}
use Rattle.rz_tools_answer.specs.declared.plan.Write.{Write}

abbrev pub write_of : Write → answer.Write
write_of write = record { name = string_bytes write.name; bytes = write.bytes }

abbrev pub answer_of : Plan → Answer
answer_of plan = record { outcome = plan.outcome; writes = map write_of plan.writes; out = plan.out; err = plan.err }

-- the write of one file failed, where those before it were written
abbrev pub FailsAt : List answer.Write → answer.Write → Option Files → Option Files → Type 0
FailsAt done one before after =
    IfSome before (λ files. IsSomeAnd after (λ left. finite.remove left one.name ≡ finite.remove (files_after done files) one.name))

-- the files are written one after the other, or up to one of them, whose write failed; each in one write: `count`
-- and `left` are the counts of writes before and after
abbrev pub WritesEach : List answer.Write → Option Files → Option Files → ℕ → ℕ → Written → Type 0
WritesEach writes before after count left ends.Done = IfSome before (λ files. after ≡ Some (files_after writes files)) × (left ≡ count_after writes count)
WritesEach writes before after count left ends.Failed =
    (done : List answer.Write) × (one : answer.Write) × (rest : List answer.Write) × (writes ≡ done ++ one ∷ rest) × FailsAt done one before after
    × (left ≡ count_after (done ++ one ∷ []) count)

-- the answer that a command has that was stopped by this, where it has one
abbrev pub EndsIn : Halt Failing → Answer → Type 0
EndsIn (halts.Refused failing) answer = answer ≡ refused failing
EndsIn halts.ReadFault answer = ⊥
EndsIn halts.NoMemory answer = ⊥

-- the outcome is Done or Refused
abbrev pub IsNoUsage : Outcome → Type 0
IsNoUsage Done = Unit {0}
IsNoUsage (Refused fault) = Unit {0}
IsNoUsage other = ⊥

abbrev pub IsRefused : Outcome → Type 0
IsRefused (Refused fault) = Unit {0}
IsRefused other = ⊥
