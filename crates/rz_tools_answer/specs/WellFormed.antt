-- What holds of each answer, whatever the folder tells.
use Rattle.std.specs.Prelude.{◌≡◌, ◌<◌, ◌^◌, length, List}
use Rattle.std.specs.List.{AllByRecursion}
use Rattle.rz_core.specs.Message.{IsNameable}
use Rattle.rz_tools_answer.specs.Answer.{misused, refused, Answer, Write}
use Rattle.rz_tools_answer.specs.declared.made.Failing.{Failing}
use Rattle.rz_tools_answer.specs.Warning.{IsWarningText}
use Rattle.rz_tools_answer.specs.declared.outcome.Outcome.{Outcome}
use Rattle.rz_tools_answer.specs.declared.outcome.Outcome.TheVariants.{Done, Usage, Refused, ReadFault, WriteFault, NoMemory}

-- Done says warnings alone, Usage its line, and a refusal warnings and then the line of its fault, which is in the table of
-- faults, is no warning, and has a mark of one of the files
abbrev pub FitsOutcome : Outcome → Answer → Type 0
FitsOutcome Done answer = IsWarningText answer.err
FitsOutcome (Usage fault) answer = answer ≡ misused fault.position
FitsOutcome (Refused fault) answer =
    (failing : Failing) × (answer ≡ refused failing) × IsNameable (length failing.files) failing.fault × IsWarningText failing.said
FitsOutcome ReadFault answer = ⊥
FitsOutcome WriteFault answer = ⊥
FitsOutcome NoMemory answer = ⊥

abbrev pub IsWellFormed : Answer → Type 0
IsWellFormed answer = FitsOutcome answer.outcome answer

-- each file is as short as a folder takes it
abbrev pub AreWritable : List Write → Type 0
AreWritable writes = AllByRecursion (λ (write : Write). length write.bytes < 2 ^ 32) writes
