-- The exit status of each outcome.
use Rattle.std.specs.Prelude.{ℕ}
use Rattle.rz_tools_answer.specs.declared.outcome.Outcome.{Outcome}
use Rattle.rz_tools_answer.specs.declared.outcome.Outcome.TheVariants.{Done, Usage, Refused, ReadFault, WriteFault, NoMemory}

abbrev pub status_of : Outcome → ℕ
status_of Done = 0
status_of (Usage fault) = 1
status_of (Refused fault) = 2
status_of ReadFault = 3
status_of WriteFault = 3
status_of NoMemory = 4
