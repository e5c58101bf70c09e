-- Calls that give a value only of a file that holds a short fork.
use Rattle.std.proofs.Common.{◌≡◌, ℕ, List, Option, Some, None, Ok, Err, inl, inr, length, sym, subst}
use Rattle.std.specs.FinMap as finite
use Rattle.std.specs.Prelude.{IfOk, IfSome, IsErrAnd}
use Rattle.std.specs.declared.result.Result.{Result}
use Rattle.rz_bridge_files.specs.declared.form.Form.{Form}
use Rattle.rz_core.specs.Answers.{Then}
use Rattle.rz_core.specs.Message.{IsNameable}
use Rattle.rz_core.specs.Stop.{halt_of, seen, Meets, OnFault}
use Rattle.rz_core.specs.declared.fault.Fault.{Fault}
use Rattle.rz_core.specs.declared.stop.Halt.{Halt}
use Rattle.rz_core.specs.declared.stop.Stop.{Stop}
use Rattle.rz_core.specs.declared.stop.Stop.TheVariants.{Refused, NoMemory}
use Rattle.rz_folder.proofs.Finding.{finds_as, finds_end, finds_fault, finds_stop, finds_then, finds_value}
use Rattle.rz_folder.specs.Finds.{Finds}
use Rattle.rz_folder.specs.Folder.{Files}
use Rattle.rz_folder.specs.declared.folder.Folder.{Ghosts}
use Rattle.rz_folder.proofs.Present.{absent_stop, finds_at, present_then, unplaced}
use Rattle.rz_folder.specs.Names.{missing_file, HasBytes, IsUnplaced}
use Rattle.rz_tools.specs.Again.{HoldsFile, OfFile}
use Rattle.rz_tools.specs.Sources.{Compiled}
use Rattle.rz_tools_answer.proofs.Planning.{finds_beside, SaidWith}
use Rattle.rz_tools_answer.specs.Made.{making_of, IsBeside, IsSayable, IsWarned}
use Rattle.rz_tools_answer.specs.Answer.{Making}
use Rattle.rz_tools_answer.specs.declared.made.Failing.{Failing}
use Rattle.rz_tools_answer.specs.declared.made.Made.{Made}

-- What is made of the bytes of a file.

module _ {F : Type 0} (g : Ghosts F) {X : Type 0} (form : Option Form) (name : List ℕ) (Has : Option (List ℕ) → Result X Fault → Type 0) where
  -- what is answered of what is at the name
  abbrev OfEntry : Option (List ℕ) → Result X Fault → Type 0
  OfEntry entry answer = Has entry answer × IfOk answer (λ value. IfSome entry (HoldsFile form))

  pub file_then : {Good : X → Type 0} {GoodX : List ℕ → Type 0} {old new : F} {bytes : List ℕ} (value : X) → Finds g old new (Ok bytes) (HasBytes name) GoodX IsUnplaced
      → Has (Some bytes) (Ok value) → HoldsFile form bytes → Good value → Finds g old new (Ok value) (OfFile form name (λ files. Has (finite.get files name))) Good IsUnplaced
  file_then {Good = Good} {bytes = bytes} value read has held good =
      present_then g name (λ files. OfEntry) read (finds_value g (OfEntry (Some bytes)) Good value (has, held) good)

  stop_meets : (bytes : List ℕ) (stop : Stop Fault) → Meets {X = X} (Err stop) (Has (Some bytes)) → Meets {X = X} (Err stop) (OfEntry (Some bytes))
  stop_meets bytes (Refused fault) has = (has, tt)
  stop_meets bytes NoMemory has = tt

  pub file_stop : {Good : X → Type 0} {GoodX : List ℕ → Type 0} {old new : F} {bytes : List ℕ} (stop : Stop Fault) (result : Result X (Halt Fault)) → IsErrAnd result (λ e. e ≡ halt_of stop)
      → Finds g old new (Ok bytes) (HasBytes name) GoodX IsUnplaced → Meets {X = X} (Err stop) (Has (Some bytes)) → ((files : ℕ) → OnFault {X = X} (Err stop) (IsNameable files))
      → Finds g old new result (OfFile form name (λ files. Has (finite.get files name))) Good IsUnplaced
  file_stop {Good = Good} {bytes = bytes} stop result is read has nameable =
      present_then g name (λ files. OfEntry) read
      (finds_end g result is (finds_fault g (OfEntry (Some bytes)) Good stop (stop_meets bytes stop has) (unplaced X X stop nameable)))

  pub file_absent : {Good : X → Type 0} {GoodX : List ℕ → Type 0} {old new : F} {halt : Halt Fault} (result : Result X (Halt Fault)) → IsErrAnd result (λ e. e ≡ halt)
      → Has None (Err (missing_file None name)) → Finds g old new (Err halt) (HasBytes name) GoodX IsUnplaced
      → Finds g old new result (OfFile form name (λ files. Has (finite.get files name))) Good IsUnplaced
  file_absent result is missing read = absent_stop g name (λ files. OfEntry) result is (λ files. (missing, tt)) (λ fault is. is) read

-- The output of a command, after what its sources made and beside the warnings.

module _ (form : Option Form) (name : List ℕ) (files : Files) where
  abbrev HeldBy : {X E : Type 0} → Result X E → Type 0
  HeldBy answer = IfOk answer (λ value. IfSome (finite.get files name) (HoldsFile form))

  said_of : (names : List (List ℕ)) (warnings : List Fault) (answers : Result (List ℕ) Fault → Type 0) (made : Result Making Failing)
      → SaidWith names warnings (λ output. answers output × HeldBy output) made → SaidWith names warnings answers made × HeldBy made
  said_of names warnings answers made (Ok bytes, (has, held), is) = ((Ok bytes, has, is), subst (λ (r : Result Making Failing). HeldBy r) (sym is) held)
  said_of names warnings answers made (Err fault, (has, held), is) = ((Err fault, has, is), subst (λ (r : Result Making Failing). HeldBy r) (sym is) tt)

  of_types : {Y : Type 0} (first : Result Compiled Failing → Type 0) (next : Compiled → Result Y Failing → Type 0) (answer : Result Y Failing)
      → Then first (λ compiled answer. next compiled answer × HeldBy answer) answer → Then first next answer × HeldBy answer
  of_types first next answer (inl (compiled, made, so)) = (inl (compiled, made, so.0), so.1)
  of_types {Y} first next answer (inr (failing, made, same)) = (inr (failing, made, same), subst (λ (r : Result Y Failing). HeldBy r) (sym same) tt)

module _ {F : Type 0} (g : Ghosts F) (form : Option Form) (name : List ℕ) where
  pub finds_said : {answers : Files → Result (List ℕ) Fault → Type 0} {Good : List ℕ → Type 0} {old new : F} {names : List (List ℕ)} {warnings : List Fault} {output : Result (List ℕ) (Halt Fault)}
      (result : Result Made (Halt Failing)) → Finds g old new output (OfFile form name answers) Good IsUnplaced → IsBeside names warnings output result
      → Finds g old new (seen making_of result) (OfFile form name (λ files. SaidWith names warnings (answers files))) (λ making. Good making.bytes × IsWarned making) IsSayable
  finds_said {answers = answers} {names = names} {warnings = warnings} result finds beside =
      finds_as g (seen making_of result) (finds_beside g result (finds_at g (length names) finds) beside) (λ files made is. said_of form name files names warnings (answers files) made is)

  module _ {Y : Type 0} (First : Files → Result Compiled Failing → Type 0) (Next : Files → Compiled → Result Y Failing → Type 0) {Good : Y → Type 0} {Bad : Failing → Type 0} where
    -- the sources made this, and what followed gave that
    pub after_types : {GoodX : Compiled → Type 0} {old mid new : F} {compiled : Compiled} (result : Result Y (Halt Failing)) → Finds g old mid (Ok compiled) First GoodX Bad
        → Finds g mid new result (OfFile form name (λ files. Next files compiled)) Good Bad → Finds g old new result (OfFile form name (λ files. Then (First files) (Next files))) Good Bad
    after_types result first next =
        finds_as g result (finds_then g First (λ files compiled. OfFile form name (λ files. Next files compiled) files) first next)
        (λ files answer is. of_types form name files (First files) (Next files) answer is)

    pub no_types : {GoodX : Compiled → Type 0} {old new : F} {halt : Halt Failing} (result : Result Y (Halt Failing)) → IsErrAnd result (λ e. e ≡ halt)
        → Finds g old new (Err halt) First GoodX Bad → Finds g old new result (OfFile form name (λ files. Then (First files) (Next files))) Good Bad
    no_types result is first =
        finds_as g result (finds_stop g First (λ files compiled. OfFile form name (λ files. Next files compiled) files) result is first)
        (λ files answer so. of_types form name files (First files) (Next files) answer so)
