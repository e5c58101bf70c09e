-- The statements of a program make something, or have a fault.
use Rattle.std.proofs.Common.{◌≡◌, ℕ, List, [], ◌∷◌, map, inl, inr, Ok, Err, refl, sym, subst}
use Rattle.std.specs.declared.result.Result.{Result}
use Rattle.rz_core.proofs.Has.{has_is, has_then, Has}
use Rattle.rz_core.proofs.Once.{ok_or_err, same_ok}
use Rattle.rz_core.specs.Answers.{Then}
use Rattle.rz_core.specs.declared.fault.Fault.{Fault}
use Rattle.rz_core.specs.declared.fault.Mark.{Mark}
use Rattle.rz_core.specs.declared.resource.Resource.{Resource}
use Rattle.rz_stmt_items.specs.Compile.{Compile}
use Rattle.rz_lex.specs.declared.token.Token.{Token}
use Rattle.rz_pre.specs.Program.{State}
use Rattle.rz_pre.specs.declared.program.Failure.{Failure}
use Rattle.rz_stmt.specs.Grammar.{mark_of, Compiles, Data, Declares, Empty, Lists, Parses, Statement}
use Rattle.rz_stmt.specs.Statements.{AreStatements}
use Rattle.rz_types_table.specs.Table.{Declaration}
use Rattle.rz_tools_answer.specs.Warning.{said_beside, warning_lines}
use Rattle.rz_tools.proofs.EveryResource.{declared_so, AreKept, AreSo, HoldsOfMade, IsKept}
use Rattle.rz_types.specs.Field.{PlainBody}
use Rattle.rz_tools.specs.Sources.{compiled, Compiled, HasWork, InProgram, SaidBeside, Unsaid}
use Rattle.rz_tools.proofs.Stepping.{done_so}
use Rattle.rz_tools.specs.Step.{done_by, list_behind, IsBehind, IsListBehind, Means, Steps, WarnedFault, WithWarnings}
use Rattle.rz_tools_values.specs.Around.{Around}
use Rattle.rz_tools_work.specs.Lists.{list_after}
use Rattle.rz_tools_work.specs.ToolWords.{numbered}
use Rattle.rz_tools_work.specs.Work.{declared, with_list, Work}

-- An answer, and what is said with it.

pub has_unsaid : {X : Type 0} (answers : Result X Failure → Type 0) → Has answers → Has (Unsaid answers)
has_unsaid answers (Ok value, is) = (Ok value, is)
has_unsaid answers (Err failure, is) = (Err (record { fault = failure.fault; files = failure.files; said = [] }), (is, refl))

has_warned : {X : Type 0} (warnings : List Fault) (answers : Result X Fault → Type 0) → Has answers → Has (WithWarnings warnings answers)
has_warned warnings answers (Ok value, is) = (Ok value, is)
has_warned warnings answers (Err fault, is) = (Err (record { fault = fault; warnings = warnings }), (is, refl))

has_in : (program : State) (answers : Result Work WarnedFault → Type 0) → Has answers → Has (InProgram program answers)
has_in program answers (Ok work, is) = (Ok (compiled program work), (work, is, refl))
has_in program answers (Err stopped, is) =
    (Err (record { fault = stopped.fault; files = program.files; said = warning_lines program.files stopped.warnings }), (stopped, is, refl))

pub has_beside : (made : Compiled) (answers : Result (List ℕ) Fault → Type 0) → Has answers → Has (SaidBeside made answers)
has_beside made answers (output, is) = (said_beside made.files made.work.warnings output, (output, is, refl))

-- A statement.

-- what holds of the fields of all declarations, and of those of a `type` statement where they keep the rules, holds after
-- the statement; what changes the list alone leaves the declarations as they are
module _ (Q : PlainBody → Type 0) where
  abbrev pub HoldsOf : Statement → Type 0
  HoldsOf Empty = Unit {0}
  HoldsOf (Data raw) = Unit {0}
  HoldsOf (Compiles one) = Unit {0}
  HoldsOf (Lists one) = Unit {0}
  HoldsOf (Declares one) = HoldsOfMade Q one.made

  list_so : (work next : Work) (list : Result (List Resource) Fault) → Ok next ≡ with_list work list → AreSo Q work.types → AreSo Q next.types
  list_so work next (Ok list) is so = subst (λ (w : Work). AreSo Q w.types) (sym (same_ok {F = Fault} next (record work { list = list }) is)) so
  list_so work next (Err fault) is so = absurd (ok_or_err {F = Fault} next fault is)

  statement_so : (around : Around) (mark : Mark) (work : Work) (statement : Statement) (next : Work) → IsBehind around mark work statement (Ok next)
      → HoldsOf statement → AreSo Q work.types → AreSo Q next.types
  statement_so around mark work Empty next is holds so = subst (λ (w : Work). AreSo Q w.types) (sym (same_ok {F = Fault} next work is)) so
  statement_so around mark work (Data raw) next is holds so = list_so work next (list_behind around mark work.list raw) is so
  statement_so around mark work (Compiles one) next is holds so = list_so work next is.0 is.2 so
  statement_so around mark work (Lists one) next is holds so = list_so work next (list_after around mark work.list one) is so
  statement_so around mark work (Declares one) next is holds so = declared_so Q around.setting mark work one next holds so (sym is)

  pub steps_so : (around : Around) (work : Work) (tokens : List Token) (next : Work) → Steps around work tokens (Ok next)
      → ((statement : Statement) → Parses tokens (Ok statement) → HoldsOf statement) → AreSo Q work.types → AreSo Q next.types
  steps_so around work tokens next (inl (statement, parses, is)) holds so =
      statement_so around (mark_of tokens) work (done_by around.setting.tool statement) next is (done_so HoldsOf around.setting.tool statement tt (holds statement parses)) so
  steps_so around work tokens next (inr (fault, parses, is)) holds so = absurd (ok_or_err {F = Fault} next fault is)

-- fields that are taken keep the rules
holds_kept : (statement : Statement) → HoldsOf IsKept statement
holds_kept Empty = tt
holds_kept (Data raw) = tt
holds_kept (Compiles one) = tt
holds_kept (Lists one) = tt
holds_kept (Declares one) = λ own is kept. kept

steps_kept : (around : Around) (work : Work) (tokens : List Token) (next : Work) → Steps around work tokens (Ok next) → AreKept work.types → AreKept next.types
steps_kept around work tokens next steps kept = steps_so IsKept around work tokens next steps (λ statement parses. holds_kept statement) kept

-- All statements.

module _ (parsed : (tokens : List Token) → Has (Parses tokens)) (parted : (tokens : List Token) → (statements : List (List Token)) × AreStatements tokens statements)
    (resources : (around : Around) (mark : Mark) (types : List Declaration) → AreKept types → (list : List Resource) (one : Compile) → Has (IsListBehind around mark types list one)) where
  has_behind : (around : Around) (mark : Mark) (work : Work) → AreKept work.types → (statement : Statement) → Has (IsBehind around mark work statement)
  has_behind around mark work kept Empty = has_is (Ok work)
  has_behind around mark work kept (Data raw) = has_is (with_list work (list_behind around mark work.list raw))
  has_behind around mark work kept (Lists one) = has_is (with_list work (list_after around mark work.list one))
  has_behind around mark work kept (Compiles one) =
      let list = resources around mark work.types kept work.list one in
      (with_list work list.0, (list.0, list.1, refl))
  has_behind around mark work kept (Declares one) = has_is (declared around.setting mark work one)

  has_step : (around : Around) (work : Work) → AreKept work.types → (tokens : List Token) → Has (Steps around work tokens)
  has_step around work kept tokens =
      let behind = λ (statement : Statement). IsBehind around (mark_of tokens) work (done_by around.setting.tool statement) in
      has_warned work.warnings (Then (Parses tokens) behind)
      (has_then (Parses tokens) behind (parsed tokens) (λ statement is. has_behind around (mark_of tokens) work kept (done_by around.setting.tool statement)))

  has_meaning : (around : Around) (work : Work) → AreKept work.types → (statements : List (List Token)) → Has (Means around work statements)
  has_meaning around work kept [] = has_is (Ok work)
  has_meaning around work kept (tokens ∷ statements) =
      has_then (Steps around work (map (numbered around.setting.tool) tokens)) (λ next. Means around next statements)
      (has_step around work kept (map (numbered around.setting.tool) tokens))
      (λ next is. has_meaning around next (steps_kept around work (map (numbered around.setting.tool) tokens) next is kept) statements)

  pub has_work : (around : Around) (start : Work) → AreKept start.types → (program : State) → Has (HasWork around start program)
  has_work around start kept program =
      let statements = parted program.tokens in
      let made = has_in program (Means around start statements.0) (has_meaning around start kept statements.0) in
      (made.0, (statements.0, statements.1, made.1))
