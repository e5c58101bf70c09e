-- What sources mean: their program, and what its statements make, one after the other. (MPW Rez.)
use Rattle.std.specs.Prelude.{◌≡◌, ℕ, Bool, is_some, List, [], Ok, Err}
use Rattle.std.specs.Str.{str_to_ascii_lowercase}
use Rattle.std.specs.declared.result.Result.{Result}
use Rattle.rz_core.specs.Answers.{Then}
use Rattle.rz_core.specs.declared.fault.Fault.{Fault}
use Rattle.rz_lex.specs.declared.token.Token.{Token}
use Rattle.rz_pre.specs.Program.{ProgramGoes, State}
use Rattle.rz_pre.specs.declared.program.Failure.{Failure}
use Rattle.rz_pre.specs.declared.program.Def.{Def}
use Rattle.rz_stmt.specs.Statements.{AreStatements}
use Rattle.rz_tools_answer.specs.Answer.{Making}
use Rattle.rz_tools_answer.specs.declared.made.Failing.{Failing}
use Rattle.rz_tools_values.specs.Around.{Around}
use Rattle.rz_tools_work.specs.Work.{Work}
use Rattle.rz_tools.specs.Step.{Means, WarnedFault}
use Rattle.rz_tools_answer.specs.Warning.{said_beside, warning_lines}

-- what the statements of sources made, which names, in whatever case, are macros after them, and the files that were
-- opened
pub record Compiled : Type 0 where
  pub work : Work
  pub is_macro : List ℕ → Bool
  pub files : List (List ℕ)

abbrev pub compiled : State → Work → Compiled
compiled program work = record { work = work; is_macro = λ name. is_some (program.live (str_to_ascii_lowercase name)); files = program.files }

-- an answer before which nothing was said
abbrev pub Unsaid : {X : Type 0} → (Result X Failure → Type 0) → Result X Failing → Type 0
Unsaid answers (Ok value) = answers (Ok value)
Unsaid answers (Err failing) = answers (Err (record { fault = failing.fault; files = failing.files })) × (failing.said ≡ [])

-- a fault before which nothing was said
abbrev pub unsaid : List (List ℕ) → Fault → Failing
unsaid files fault = record { fault = fault; files = files; said = [] }

-- what there is to begin with after a program, or its fault, before which nothing was said
abbrev pub Begins : {X : Type 0} → State → (Result X Fault → Type 0) → Result X Failing → Type 0
Begins program answers (Ok begun) = answers (Ok begun)
Begins program answers (Err failing) = answers (Err failing.fault) × (failing ≡ unsaid program.files failing.fault)

-- what the statements of a program made, or the fault with the lines of what was warned of before
abbrev pub InProgram : State → (Result Work WarnedFault → Type 0) → Result Compiled Failing → Type 0
InProgram program answers (Ok made) = (work : Work) × answers (Ok work) × (made ≡ compiled program work)
InProgram program answers (Err failing) =
    (stopped : WarnedFault) × answers (Err stopped)
    × (failing ≡ record { fault = stopped.fault; files = program.files; said = warning_lines program.files stopped.warnings })

-- what the statements of a program make of the work to begin with
abbrev pub HasWork : Around → Work → State → Result Compiled Failing → Type 0
HasWork around start program made =
    (statements : List (List Token)) × AreStatements program.tokens statements × InProgram program (Means around start statements) made

-- the program of the sources of these names, with these paths and definitions, or its first fault
abbrev pub IsProgramOf : Around → List (List ℕ) → List (List ℕ) → List Def → Result State Failing → Type 0
IsProgramOf around names paths defs = Unsaid (ProgramGoes around.files around.setting.tool names paths defs)

-- what the sources mean: their program, and what its statements make of the work to begin with; or the first fault of
-- these
abbrev pub AreCompiled : Around → Work → List (List ℕ) → List (List ℕ) → List Def → Result Compiled Failing → Type 0
AreCompiled around start names paths defs = Then (IsProgramOf around names paths defs) (HasWork around start)

-- what is made of the work, with the lines of its warnings
abbrev pub SaidBeside : Compiled → (Result (List ℕ) Fault → Type 0) → Result Making Failing → Type 0
SaidBeside compiled answers making =
    (output : Result (List ℕ) Fault) × answers output × (making ≡ said_beside compiled.files compiled.work.warnings output)
