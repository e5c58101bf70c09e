-- The lines of warnings, and what is said beside them.
use Rattle.std.specs.Prelude.{◌≡◌, ℕ, List, length, Ok, Err}
use Rattle.std.specs.List.{flat_map, AllByRecursion}
use Rattle.std.specs.declared.result.Result.{Result}
use Rattle.rz_tools_answer.specs.Answer.{Making}
use Rattle.rz_tools_answer.specs.declared.made.Failing.{Failing}
use Rattle.rz_core.specs.Message.{fault_line, IsMarked}
use Rattle.rz_core.specs.declared.fault.Fault.{Fault}

-- 240 is the one warning, and its mark is of one of so many files
pub record IsWarning (files : ℕ) (fault : Fault) : Type 0 where
  pub number : fault.number ≡ 240
  pub place : IsMarked files fault.mark

abbrev pub AreWarnings : ℕ → List Fault → Type 0
AreWarnings files faults = AllByRecursion (IsWarning files) faults

-- their lines, where these are the files that marks count
abbrev pub warning_lines : List (List ℕ) → List Fault → List ℕ
warning_lines files warnings = flat_map (fault_line files) warnings

-- a text is the lines of warnings, maybe of none
abbrev pub IsWarningText : List ℕ → Type 0
IsWarningText text = (files : List (List ℕ)) × (warnings : List Fault) × AreWarnings (length files) warnings × (text ≡ warning_lines files warnings)

-- bytes and the lines of the warnings of these files, or a fault after these lines
abbrev pub said_beside : List (List ℕ) → List Fault → Result (List ℕ) Fault → Result Making Failing
said_beside files warnings (Ok bytes) = Ok (record { bytes = bytes; said = warning_lines files warnings })
said_beside files warnings (Err fault) = Err (record { fault = fault; files = files; said = warning_lines files warnings })
