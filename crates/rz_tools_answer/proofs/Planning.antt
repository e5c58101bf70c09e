-- The plan of a command, from what it made or was stopped by.
use Rattle.std.proofs.Common.{◌≡◌, ℕ, List, length, Option, Some, None, Ok, Err, refl, sym, subst}
use Rattle.std.specs.Prelude.{IfOk, IfSome, IsErrAnd}
use Rattle.std.specs.declared.result.Result.{Result}
use Rattle.rz_core.proofs.Stops.{yields_so}
use Rattle.rz_core.specs.Message.{IsNameable}
use Rattle.rz_core.specs.Stop.{seen, IsReadFault, OnRefusal, Yields}
use Rattle.rz_core.specs.declared.fault.Fault.{Fault}
use Rattle.rz_core.specs.declared.stop.Halt.{Halt}
use Rattle.rz_core.specs.declared.stop.Halt.TheVariants as halts
use Rattle.rz_folder.proofs.Reading.{reads_as}
use Rattle.rz_folder.specs.Finds.{Finds}
use Rattle.rz_folder.specs.Folder.{Files}
use Rattle.rz_folder.specs.declared.folder.Folder.{Ghosts}
use Rattle.rz_tools_answer.specs.Answer.{Answer, Answered, Making}
use Rattle.rz_tools_answer.specs.Made.{making_of, IsBeside, IsSayable, IsWarned, SaysBeside}
use Rattle.rz_tools_answer.specs.Plan.{answer_of, EndsIn, IsNoUsage, IsRefused}
use Rattle.rz_tools_answer.specs.Plans.{Concludes, EndsAs, Plans}
use Rattle.rz_tools_answer.specs.Warning.{said_beside}
use Rattle.rz_tools_answer.specs.WellFormed.{AreWritable, IsWellFormed}
use Rattle.rz_tools_answer.specs.declared.made.Failing.{Failing}
use Rattle.rz_tools_answer.specs.declared.made.Made.{Made}
use Rattle.rz_tools_answer.specs.declared.outcome.Outcome.{Outcome}
use Rattle.rz_tools_answer.specs.declared.outcome.Outcome.TheVariants.{Done, Usage, Refused, ReadFault, WriteFault, NoMemory}
use Rattle.rz_tools_answer.specs.declared.plan.Plan.{Plan}

no_usage : (outcome : Outcome) → IsRefused outcome → IsNoUsage outcome
no_usage Done is = absurd is
no_usage (Usage fault) is = absurd is
no_usage (Refused fault) is = tt
no_usage ReadFault is = absurd is
no_usage WriteFault is = absurd is
no_usage NoMemory is = absurd is

-- what is seen of what a command made
pub stop_sayable : (made : Result Made (Halt Failing)) (halt : Halt Failing) → made ≡ Err halt → OnRefusal (seen making_of made) IsSayable → OnRefusal {X = Made} (Err halt) IsSayable
stop_sayable made halt is bad = by halt (subst (λ (m : Result Made (Halt Failing)). OnRefusal (seen making_of m) IsSayable) is bad)
  where
    by : (halt : Halt Failing) → OnRefusal {X = Making} (Err halt) IsSayable → OnRefusal {X = Made} (Err halt) IsSayable
    by (halts.Refused failing) bad = bad
    by halts.ReadFault bad = tt
    by halts.NoMemory bad = tt

pub made_good : (Good : Making → Type 0) (made : Result Made (Halt Failing)) (one : Made) → made ≡ Ok one → IfOk (seen making_of made) Good → Good (making_of one)
made_good Good made one is good = subst (λ (m : Result Made (Halt Failing)). IfOk (seen making_of m) Good) is good

pub seen_failed : (made : Result Made (Halt Failing)) → IsReadFault made → IsReadFault (seen making_of made)
seen_failed (Ok made) failed = failed
seen_failed (Err (halts.Refused failing)) failed = failed
seen_failed (Err halts.ReadFault) failed = failed
seen_failed (Err halts.NoMemory) failed = failed

-- The plan.

module _ {E : Type 0} (done : Making → Answer) (made : Result Made (Halt Failing)) where
  pub concludes_made : (one : Made) → made ≡ Ok one → (plan : Plan) → answer_of plan ≡ done (making_of one) → IsWellFormed (done (making_of one))
      → AreWritable (done (making_of one)).writes → IsNoUsage (done (making_of one)).outcome → Concludes {E = E} done made (Ok plan)
  concludes_made one is plan says fits writes ends = record {
    answered = subst (λ (m : Result Made (Halt Failing)). EndsAs done m (answer_of plan)) (sym is) says;
    well_formed = subst IsWellFormed (sym says) fits;
    writable = subst (λ (a : Answer). AreWritable a.writes) (sym says) writes;
    no_usage = subst (λ (a : Answer). IsNoUsage a.outcome) (sym says) ends;
    read_fault = λ never. absurd never;
  }

  pub concludes_nothing : (result : Result Plan (Halt E)) → IsErrAnd result (λ e. e ≡ halts.NoMemory) → Concludes done made result
  concludes_nothing (Ok plan) is = absurd is
  concludes_nothing (Err halt) is = record {
    answered = tt;
    well_formed = tt;
    writable = tt;
    no_usage = tt;
    read_fault = λ failed. absurd (subst (λ (h : Halt E). IsReadFault {X = Plan} (Err h)) is failed);
  }

  pub concludes_stopped : (halt : Halt Failing) → made ≡ Err halt → (result : Result Plan (Halt E)) → IfOk result (λ plan. EndsIn halt (answer_of plan))
      → IfOk result (λ plan. IsWellFormed (answer_of plan)) → IfOk result (λ plan. AreWritable (answer_of plan).writes) → IfOk result (λ plan. IsRefused plan.outcome)
      → (result ≡ Err halts.ReadFault → halt ≡ halts.ReadFault) → Concludes done made result
  concludes_stopped halt is (Ok plan) ends fits writes refused read = record {
    answered = subst (λ (m : Result Made (Halt Failing)). EndsAs done m (answer_of plan)) (sym is) ends;
    well_formed = fits;
    writable = writes;
    no_usage = no_usage plan.outcome refused;
    read_fault = λ never. absurd never;
  }
  concludes_stopped halt is (Err end) ends fits writes refused read = record { answered = tt; well_formed = tt; writable = tt; no_usage = tt; read_fault = by end read }
    where
      by : (end : Halt E) → (◌≡◌ {A = Result Plan (Halt E)} (Err end) (Err halts.ReadFault) → halt ≡ halts.ReadFault) → IsReadFault {X = Plan} (Err end) → IsReadFault made
      by (halts.Refused fault) read failed = absurd failed
      by halts.ReadFault read failed =
          subst (λ (m : Result Made (Halt Failing)). IsReadFault m) (sym is) (subst (λ (h : Halt Failing). IsReadFault {X = Made} (Err h)) (sym (read refl)) tt)
      by halts.NoMemory read failed = absurd failed

-- The same where the files are told.

module _ {F E : Type 0} (g : Ghosts F) (done : Making → Answer) (Makes : Files → Result Making Failing → Type 0) where
  answers : (made : Result Made (Halt Failing)) (result : Result Plan (Halt E)) → IfOk result (λ plan. EndsAs done made (answer_of plan)) → (before : Option Files)
      → IfSome before (λ files. Yields (seen making_of made) (Makes files)) → IfSome before (λ files. IfOk result (λ plan. Answered done (Makes files) (answer_of plan)))
  answers made result ends None makes = tt
  answers made (Err end) ends (Some files) makes = tt
  answers (Ok made) (Ok plan) ends (Some files) makes = (Ok (making_of made), makes, ends)
  answers (Err (halts.Refused failing)) (Ok plan) ends (Some files) makes = (Err failing, makes, ends)
  answers (Err halts.ReadFault) (Ok plan) ends (Some files) makes = absurd ends
  answers (Err halts.NoMemory) (Ok plan) ends (Some files) makes = absurd ends

  pub plans_made : {Good : Making → Type 0} {Bad : Failing → Type 0} {old new : F} (made : Result Made (Halt Failing)) {result : Result Plan (Halt E)}
      → Finds g old new (seen making_of made) Makes Good Bad → Concludes done made result → Plans g old new result (λ files. Answered done (Makes files))
  plans_made {old = old} {new = new} made {result = result} finds concludes = record {
    answered = answers made result concludes.answered (g.files old) finds.answered;
    well_formed = concludes.well_formed;
    writable = concludes.writable;
    no_usage = concludes.no_usage;
    reads = reads_as g old new (λ failed. seen_failed made (concludes.read_fault failed)) finds.reads;
  }

module _ {F E : Type 0} (g : Ghosts F) where
  pub plans_as : {A B : Files → Answer → Type 0} {old new : F} (result : Result Plan (Halt E)) → Plans g old new result A → ((files : Files) (answer : Answer) → A files answer → B files answer)
      → Plans g old new result B
  plans_as {A = A} {B = B} {old = old} result plans so = record {
    answered = by (g.files old) result plans.answered;
    well_formed = plans.well_formed;
    writable = plans.writable;
    no_usage = plans.no_usage;
    reads = plans.reads;
  }
    where
      by : (before : Option Files) (result : Result Plan (Halt E)) → IfSome before (λ files. IfOk result (λ plan. A files (answer_of plan)))
          → IfSome before (λ files. IfOk result (λ plan. B files (answer_of plan)))
      by None result is = tt
      by (Some files) (Ok plan) is = so files (answer_of plan) is
      by (Some files) (Err end) is = tt

-- What a command makes of an output and of warnings.

-- the output is one of these, and is said beside the warnings
abbrev pub SaidWith : List (List ℕ) → List Fault → (Result (List ℕ) Fault → Type 0) → Result Making Failing → Type 0
SaidWith names warnings answers made = (output : Result (List ℕ) Fault) × answers output × (made ≡ said_beside names warnings output)

module _ (names : List (List ℕ)) (warnings : List Fault) (answers : Result (List ℕ) Fault → Type 0) where
  pub said_with : (output : Result (List ℕ) (Halt Fault)) (result : Result Made (Halt Failing)) → SaysBeside names warnings output result → Yields output answers
      → Yields (seen making_of result) (SaidWith names warnings answers)
  said_with (Ok bytes) result says yields =
      yields_so (λ made. made ≡ said_beside names warnings (Ok bytes)) (SaidWith names warnings answers) (λ made is. (Ok bytes, yields, is)) (seen making_of result) says
  said_with (Err (halts.Refused fault)) result says yields =
      yields_so (λ made. made ≡ said_beside names warnings (Err fault)) (SaidWith names warnings answers) (λ made is. (Err fault, yields, is)) (seen making_of result) says
  said_with (Err halts.ReadFault) result says yields = subst (λ (r : Result Made (Halt Failing)). Yields (seen making_of r) (SaidWith names warnings answers)) (sym says) tt
  said_with (Err halts.NoMemory) result says yields = subst (λ (r : Result Made (Halt Failing)). Yields (seen making_of r) (SaidWith names warnings answers)) (sym says) tt

good_too : (Good : List ℕ → Type 0) (output : Result (List ℕ) (Halt Fault)) (result : Result Made (Halt Failing)) → IfOk result (λ made. output ≡ Ok made.bytes) → IfOk (seen making_of result) IsWarned
    → IfOk output Good → IfOk (seen making_of result) (λ making. Good making.bytes × IsWarned making)
good_too Good output (Ok made) is warned good = (subst (λ (o : Result (List ℕ) (Halt Fault)). IfOk o Good) is good, warned)
good_too Good output (Err halt) is warned good = tt

pub beside_good : {names : List (List ℕ)} {warnings : List Fault} {output : Result (List ℕ) (Halt Fault)} (Good : List ℕ → Type 0) (result : Result Made (Halt Failing)) → IsBeside names warnings output result
    → IfOk output Good → IfOk (seen making_of result) (λ making. Good making.bytes × IsWarned making)
beside_good {output = output} Good result beside good = good_too Good output result beside.bytes beside.warned good

pub unseen_failed : (made : Result Made (Halt Failing)) → IsReadFault (seen making_of made) → IsReadFault made
unseen_failed (Ok made) failed = failed
unseen_failed (Err (halts.Refused failing)) failed = failed
unseen_failed (Err halts.ReadFault) failed = failed
unseen_failed (Err halts.NoMemory) failed = failed

module _ {F : Type 0} (g : Ghosts F) where
  pub finds_beside : {A : Files → Result (List ℕ) Fault → Type 0} {Good : List ℕ → Type 0} {old new : F} {names : List (List ℕ)} {warnings : List Fault} {output : Result (List ℕ) (Halt Fault)}
      (result : Result Made (Halt Failing)) → Finds g old new output A Good (IsNameable (length names)) → IsBeside names warnings output result
      → Finds g old new (seen making_of result) (λ files. SaidWith names warnings (A files)) (λ making. Good making.bytes × IsWarned making) IsSayable
  finds_beside {A = A} {Good = Good} {old = old} {new = new} {names = names} {warnings = warnings} {output = output} result finds beside = record {
    answered = by (g.files old) finds.answered;
    good = good_too Good output result beside.bytes beside.warned finds.good;
    bad = beside.sayable;
    reads = reads_as g old new (λ failed. beside.read_fault (unseen_failed result failed)) finds.reads;
  }
    where
      by : (before : Option Files) → IfSome before (λ files. Yields output (A files)) → IfSome before (λ files. Yields (seen making_of result) (SaidWith names warnings (A files)))
      by None yields = tt
      by (Some files) yields = said_with names warnings (A files) output result beside.said yields
