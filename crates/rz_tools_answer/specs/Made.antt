-- What the calls that make a text or a fork give.
use Rattle.std.specs.Prelude.{◌≡◌, ◌<◌, ◌^◌, ℕ, List, length, Ok, Err, IfOk}
use Rattle.std.specs.declared.result.Result.{Result}
use Rattle.rz_core.specs.Message.{IsNameable}
use Rattle.rz_core.specs.Stop.{seen, IsReadFault, OnRefusal, Yields}
use Rattle.rz_core.specs.declared.fault.Fault.{Fault}
use Rattle.rz_core.specs.declared.stop.Halt.{Halt}
use Rattle.rz_core.specs.declared.stop.Halt.TheVariants as halts
use Rattle.rz_tools_answer.specs.Answer.{Making}
use Rattle.rz_tools_answer.specs.declared.made.Failing.{Failing}
use Rattle.rz_tools_answer.specs.Warning.{said_beside, IsWarningText}
use Rattle.rz_tools_answer.specs.declared.made.Made.{Made}

abbrev pub making_of : Made → Making
making_of made = record { bytes = made.bytes; said = made.said }

-- the files can name the fault, and what is said before its line is the lines of warnings
pub record IsSayable (failing : Failing) : Type 0 where
  pub nameable : IsNameable (length failing.files) failing.fault
  pub warned : IsWarningText failing.said

-- what is said beside it is lines of warnings
abbrev pub IsWarned : Making → Type 0
IsWarned making = IsWarningText making.said

-- and a file takes its bytes
abbrev pub FitsFile : Making → Type 0
FitsFile making = (length making.bytes < 2 ^ 32) × IsWarned making

-- the call gave these bytes and the lines of the warnings of these files, or this fault after them; where the output stopped
-- otherwise, the call stopped so
abbrev pub SaysBeside : List (List ℕ) → List Fault → Result (List ℕ) (Halt Fault) → Result Made (Halt Failing) → Type 0
SaysBeside files warnings (Ok bytes) result = Yields (seen making_of result) (λ answer. answer ≡ said_beside files warnings (Ok bytes))
SaysBeside files warnings (Err (halts.Refused fault)) result = Yields (seen making_of result) (λ answer. answer ≡ said_beside files warnings (Err fault))
SaysBeside files warnings (Err halts.ReadFault) result = result ≡ Err halts.ReadFault
SaysBeside files warnings (Err halts.NoMemory) result = result ≡ Err halts.NoMemory

-- what a call makes of an output and of warnings
pub record IsBeside (files : List (List ℕ)) (warnings : List Fault) (output : Result (List ℕ) (Halt Fault)) (result : Result Made (Halt Failing)) : Type 0 where
  pub said : SaysBeside files warnings output result
  pub bytes : IfOk result (λ made. output ≡ Ok made.bytes)
  pub sayable : OnRefusal (seen making_of result) IsSayable
  pub warned : IfOk (seen making_of result) IsWarned
  pub read_fault : IsReadFault result → IsReadFault output
