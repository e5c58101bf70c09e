-- What sources make, and what is made of it, one call after another.
use Rattle.std.proofs.Common.{◌≡◌, inl, inr, ℕ, List, [], length, Ok, Err, Some, None, refl, sym, subst, ◌∙◌}
use Rattle.std.specs.Prelude.{IfSome, IsErrAnd}
use Rattle.std.specs.Str.{str_to_ascii_lowercase}
use Rattle.std.specs.declared.option.Option.{Option}
use Rattle.std.specs.declared.result.Result.{Result}
use Rattle.rz_core.proofs.Once.{same_err}
use Rattle.rz_core.specs.Answers.{Then}
use Rattle.rz_core.specs.Stop.{IsReadFault, OnRefusal, Yields}
use Rattle.rz_core.specs.declared.fault.Fault.{Fault}
use Rattle.rz_core.specs.declared.stop.Halt.{Halt}
use Rattle.rz_core.specs.declared.stop.Halt.TheVariants as halts
use Rattle.rz_folder.proofs.Finding.{failed_so, finds_as, finds_stop, finds_then, refuses_so}
use Rattle.rz_folder.proofs.Reading.{reads_as}
use Rattle.rz_folder.specs.Finds.{Finds}
use Rattle.rz_folder.specs.Folder.{Files}
use Rattle.rz_folder.specs.declared.folder.Folder.{Ghosts}
use Rattle.rz_lex.specs.declared.token.Token.{Token}
use Rattle.rz_pre.specs.Placed.{IsSourceFault}
use Rattle.rz_pre.specs.Program.{ProgramGoes, State}
use Rattle.rz_pre.specs.Reading.{IsProgram, OfProgram}
use Rattle.rz_pre.specs.declared.condition.Tool.{Tool}
use Rattle.rz_pre.specs.declared.program.Def.{Def}
use Rattle.rz_pre.specs.declared.program.Failure.{Failure}
use Rattle.rz_pre.specs.declared.program.Program.{Program}
use Rattle.rz_stmt.specs.Statements.{AreStatements}
use Rattle.rz_tools_answer.specs.Answer.{Making}
use Rattle.rz_tools_answer.specs.Made.{IsBeside, IsSayable}
use Rattle.rz_tools_answer.specs.Warning.{warning_lines}
use Rattle.rz_tools_answer.specs.declared.made.Failing.{Failing}
use Rattle.rz_tools_answer.specs.declared.made.Made.{Made}
use Rattle.rz_tools_text.specs.Held.{macros_held}
use Rattle.rz_tools_values.specs.Around.{around, Around}
use Rattle.rz_tools_values.specs.declared.setting.Setting.{Setting}
use Rattle.rz_tools_work.specs.Work.{Work}
use Rattle.rz_tools.specs.Held.{not_read, OfState}
use Rattle.rz_tools.specs.Sources as sources
use Rattle.rz_tools.specs.Sources.{unsaid, Begins, HasWork, Unsaid}
use Rattle.rz_tools.specs.Step.{Means, with_work}

-- The program.

module _ (tool : Tool) (names paths : List (List ℕ)) (defs : List Def) where
  -- sources that can't be read
  pub no_program : (halt : Halt Failure) (before : Option Files) → IfSome before (λ files. Yields {X = Program} (Err halt) (OfProgram (ProgramGoes files tool names paths defs)))
      → IfSome before (λ files. Yields {X = Program} (Err (not_read halt)) (OfProgram (Unsaid (ProgramGoes files tool names paths defs))))
  no_program halt None gave = tt
  no_program (halts.Refused failure) (Some files) gave = (gave, refl)
  no_program halts.ReadFault (Some files) gave = tt
  no_program halts.NoMemory (Some files) gave = tt

pub not_read_sayable : (halt : Halt Failure) → OnRefusal {X = Program} (Err halt) (λ failure. IsSourceFault (length failure.files) failure.fault) → OnRefusal {X = Program} (Err (not_read halt)) IsSayable
not_read_sayable (halts.Refused failure) is = record { nameable = is.nameable; warned = ([], [], tt, refl) }
not_read_sayable halts.ReadFault is = tt
not_read_sayable halts.NoMemory is = tt

pub not_read_failed : (halt : Halt Failure) → IsReadFault {X = Program} (Err (not_read halt)) → IsReadFault {X = Program} (Err halt)
not_read_failed (halts.Refused failure) failed = absurd failed
not_read_failed halts.ReadFault failed = tt
not_read_failed halts.NoMemory failed = absurd failed

after_program : {Y : Type 0} (First : Result State Failing → Type 0) (Next : State → Result Y Failing → Type 0) (answer : Result Y Failing)
    → Then (OfProgram First) (λ program. OfState program Next) answer → Then First Next answer
after_program First Next answer (inl (program, (s, is, goes), next)) = inl (s, goes, next s is)
after_program First Next answer (inr (failing, goes, same)) = inr (failing, goes, same)

module _ {F : Type 0} (g : Ghosts F) {Y : Type 0} (First : Files → Result State Failing → Type 0) (Next : Files → State → Result Y Failing → Type 0) where
  -- it was read, and what followed gave this
  pub program_then : {GoodX : Program → Type 0} {Good : Y → Type 0} {Bad : Failing → Type 0} {old mid new : F} {program : Program} {result : Result Y (Halt Failing)}
      → Finds g old mid (Ok program) (λ files. OfProgram (First files)) GoodX Bad → Finds g mid new result (λ files. OfState program (Next files)) Good Bad
      → Finds g old new result (λ files. Then (First files) (Next files)) Good Bad
  program_then {result = result} first next =
      finds_as g result (finds_then g (λ files. OfProgram (First files)) (λ files program. OfState program (Next files)) first next) (λ files answer is. after_program (First files) (Next files) answer is)

  -- it was not
  pub program_stop : {GoodX : Program → Type 0} {Good : Y → Type 0} {Bad : Failing → Type 0} {old new : F} {halt : Halt Failing} (result : Result Y (Halt Failing)) → IsErrAnd result (λ e. e ≡ halt)
      → Finds g old new (Err halt) (λ files. OfProgram (First files)) GoodX Bad → Finds g old new result (λ files. Then (First files) (Next files)) Good Bad
  program_stop result is first =
      finds_as g result (finds_stop g (λ files. OfProgram (First files)) (λ files program. OfState program (Next files)) result is first) (λ files answer is. after_program (First files) (Next files) answer is)

-- One call after another, of the program that was read.

after_state : {X Y : Type 0} (program : Program) (First : State → Result X Failing → Type 0) (Next : State → X → Result Y Failing → Type 0) (answer : Result Y Failing)
    → Then (OfState program First) (λ x. OfState program (λ s. Next s x)) answer → OfState program (λ s. Then (First s) (Next s)) answer
after_state program First Next answer (inl (x, first, next)) = λ s is. inl (x, first s is, next s is)
after_state program First Next answer (inr (failing, first, same)) = λ s is. inr (failing, first s is, same)

module _ {F : Type 0} (g : Ghosts F) (program : Program) {X Y : Type 0} (First : Files → State → Result X Failing → Type 0) (Next : Files → State → X → Result Y Failing → Type 0) where
  pub states_then : {GoodX : X → Type 0} {Good : Y → Type 0} {Bad : Failing → Type 0} {old mid new : F} {x : X} {result : Result Y (Halt Failing)}
      → Finds g old mid (Ok x) (λ files. OfState program (First files)) GoodX Bad → Finds g mid new result (λ files. OfState program (λ s. Next files s x)) Good Bad
      → Finds g old new result (λ files. OfState program (λ s. Then (First files s) (Next files s))) Good Bad
  states_then {result = result} first next =
      finds_as g result (finds_then g (λ files. OfState program (First files)) (λ files x. OfState program (λ s. Next files s x)) first next)
      (λ files answer is. after_state program (First files) (Next files) answer is)

  pub states_stop : {GoodX : X → Type 0} {Good : Y → Type 0} {Bad : Failing → Type 0} {old new : F} {halt : Halt Failing} (result : Result Y (Halt Failing)) → IsErrAnd result (λ e. e ≡ halt)
      → Finds g old new (Err halt) (λ files. OfState program (First files)) GoodX Bad → Finds g old new result (λ files. OfState program (λ s. Then (First files s) (Next files s))) Good Bad
  states_stop result is first =
      finds_as g result (finds_stop g (λ files. OfState program (First files)) (λ files x. OfState program (λ s. Next files s x)) result is first)
      (λ files answer is. after_state program (First files) (Next files) answer is)

-- What there is to begin with, before which nothing is said.

not_begun : {X : Type 0} (program : Program) (A : Result X Fault → Type 0) (halt : Halt Fault) (stop : Halt Failing) → IsBeside program.files [] (Err halt) (Err stop) → Yields {X = X} (Err halt) A
    → Yields {X = X} (Err stop) (OfState program (λ s. Begins s A))
not_begun program A (halts.Refused fault) (halts.Refused failing) beside told =
    let e : failing ≡ unsaid program.files fault = same_err failing (unsaid program.files fault) beside.said in
    λ s is. (
      subst (λ (f : Failing). A (Err f.fault)) (sym e) told,
      e ∙ (λ i. unsaid (is.files i) fault) ∙ (λ i. unsaid s.files ((sym e i).fault)),
    )
not_begun program A halts.ReadFault (halts.Refused failing) beside told = absurd (cc beside.said)
not_begun program A halts.NoMemory (halts.Refused failing) beside told = absurd (cc beside.said)
not_begun program A halt halts.ReadFault beside told = tt
not_begun program A halt halts.NoMemory beside told = tt

module _ {F : Type 0} (g : Ghosts F) (program : Program) {X : Type 0} (A : Files → Result X Fault → Type 0) {GoodX : X → Type 0} {BadX : Fault → Type 0} {old new : F} where
  pub begun_then : {Bad : Failing → Type 0} {x : X} → Finds g old new (Ok x) A GoodX BadX → Finds g old new (Ok x) (λ files. OfState program (λ s. Begins s (A files))) GoodX Bad
  begun_then {x = x} finds = record { answered = by (g.files old) finds.answered; good = finds.good; bad = tt; reads = finds.reads }
    where
      by : (before : Option Files) → IfSome before (λ files. A files (Ok x)) → IfSome before (λ files. OfState program (λ s. Begins s (A files)) (Ok x))
      by None is = tt
      by (Some files) is = λ s reads. is

  pub begun_stop : {halt : Halt Fault} {stop : Halt Failing} → Finds g old new (Err halt) A GoodX BadX → IsBeside program.files [] (Err halt) (Err stop)
      → Finds g old new (Err stop) (λ files. OfState program (λ s. Begins s (A files))) GoodX IsSayable
  begun_stop {halt = halt} {stop = stop} finds beside = record {
    answered = by (g.files old) finds.answered;
    good = tt;
    bad = refuses_so Making X stop IsSayable beside.sayable;
    reads = reads_as g old new (λ failed. failed_so (List ℕ) X halt (beside.read_fault (failed_so X Made stop failed))) finds.reads;
  }
    where
      by : (before : Option Files) → IfSome before (λ files. Yields {X = X} (Err halt) (A files)) → IfSome before (λ files. Yields {X = X} (Err stop) (OfState program (λ s. Begins s (A files))))
      by None told = tt
      by (Some files) told = not_begun program (A files) halt stop beside told

-- The statements of a program.

module _ (around : Around) (start : Work) (cut : List (List Token)) (program : Program) (s : State) (is : IsProgram program s)
    (are : AreStatements program.tokens cut) where
  there : AreStatements s.tokens cut
  there = subst (λ (ts : List Token). AreStatements ts cut) is.tokens are

  made_of_work : (work : Work) → Means around start cut (Ok work)
      → HasWork around start s (Ok (record { work = work; is_macro = macros_held program.macros; files = program.files }))
  made_of_work work means =
      (cut, there, (work, means, λ i. record { work = work; is_macro = λ name. is.macros (str_to_ascii_lowercase name) i; files = is.files i }))

  refused_so : (fault : Fault) (warnings : List Fault) → Means around start cut (Err (record { fault = fault; warnings = warnings }))
      → (failing : Failing) → failing ≡ record { fault = fault; files = program.files; said = warning_lines program.files warnings } → HasWork around start s (Err failing)
  refused_so fault warnings means failing refuses = (
    cut,
    there,
    (
      record { fault = fault; warnings = warnings },
      means,
      subst (λ (f : List (List ℕ)). failing ≡ record { fault = fault; files = f; said = warning_lines f warnings }) is.files refuses,
    ),
  )

-- The same where the files are told.

module _ (setting : Setting) (paths : List (List ℕ)) (start : Work) (cut : List (List Token)) (program : Program) (are : AreStatements program.tokens cut) where
  abbrev IsWork : Files → Result sources.Compiled Failing → Type 0
  IsWork files = OfState program (HasWork (around setting paths files) start)

  pub work_told : (before : Option Files) (work : Work)
      → IfSome before (λ files. (statements : List (List Token)) → AreStatements program.tokens statements → Yields (with_work work (Ok tt)) (Means (around setting paths files) start statements))
      → IfSome before (λ files. IsWork files (Ok (record { work = work; is_macro = macros_held program.macros; files = program.files })))
  work_told None work means = tt
  work_told (Some files) work means = λ s is. made_of_work (around setting paths files) start cut program s is are work (means cut are)

  pub stop_told : (before : Option Files) (work : Work) (halt : Halt Fault) (stop : Halt Failing)
      → IfSome before (λ files. (statements : List (List Token)) → AreStatements program.tokens statements → Yields (with_work work (Err halt)) (Means (around setting paths files) start statements))
      → IsBeside program.files work.warnings (Err halt) (Err stop) → IfSome before (λ files. Yields {X = sources.Compiled} (Err stop) (IsWork files))
  stop_told None work halt stop means beside = tt
  stop_told (Some files) work (halts.Refused fault) (halts.Refused failing) means beside = λ s is.
      refused_so (around setting paths files) start cut program s is are fault work.warnings (means cut are) failing
      (same_err failing (record { fault = fault; files = program.files; said = warning_lines program.files work.warnings }) beside.said)
  stop_told (Some files) work halts.ReadFault (halts.Refused failing) means beside = absurd (cc beside.said)
  stop_told (Some files) work halts.NoMemory (halts.Refused failing) means beside = absurd (cc beside.said)
  stop_told (Some files) work halt halts.ReadFault means beside = tt
  stop_told (Some files) work halt halts.NoMemory means beside = tt
