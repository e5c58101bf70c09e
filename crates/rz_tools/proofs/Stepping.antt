-- Statements one after the other.
use Rattle.std.proofs.Common.{◌≡◌, inl, inr, ℕ, zero, suc, ◌-◌, ◌<◌, ◌≤◌, List, [], ◌∷◌, ◌++◌, drop, length, map, slice_get, Some, None, take, Ok, Err, refl, sym, ap, subst, ◌∙◌, arith, length-append}
use Rattle.std.specs.Prelude.{IfSome, IsErrAnd}
use Rattle.std.specs.declared.option.Option.{Option}
use Rattle.std.specs.declared.result.Result.{Result}
use Rattle.std.proofs.lemmas.List.{take_all}
use Rattle.std.proofs.lemmas.Option.{same_Some}
use Rattle.rz_lex.specs.Within.{AreWithin}
use Rattle.rz_core.specs.declared.fault.Fault.{Fault}
use Rattle.rz_core.specs.declared.fault.Mark.{Mark}
use Rattle.rz_core.specs.declared.resource.Resource.{Resource}
use Rattle.rz_lex.specs.declared.token.Token.{Token}
use Rattle.rz_core.specs.Stop.{halt_of, left, Meets, OnRefusal, Yields, seen}
use Rattle.rz_core.specs.declared.stop.Stop.{Stop}
use Rattle.rz_core.specs.declared.stop.Stop.TheVariants as stops
use Rattle.rz_core.specs.declared.stop.Halt.{Halt}
use Rattle.rz_core.specs.declared.stop.Halt.TheVariants.{NoMemory, ReadFault, Refused}
use Rattle.rz_pre.specs.declared.condition.Tool.{Tool}
use Rattle.rz_pre.specs.declared.condition.Tool.TheVariants as tools
use Rattle.rz_stmt.specs.Grammar.{mark_of, Compiles, Data, Declares, Empty, Lists, Parses, Statement, statement_of}
use Rattle.rz_stmt.specs.Statements.{AreStatements}
use Rattle.rz_stmt.specs.Next.{BeginsWith}
use Rattle.rz_lex.specs.Lexeme.{AreLexed}
use Rattle.rz_tools_work.specs.ToolWords.{numbered}
use Rattle.rz_core.specs.Answers.{Then}
use Rattle.rz_folder.specs.Folder.{Files}
use Rattle.rz_tools_values.specs.Around.{around, Around}
use Rattle.rz_tools_work.specs.Work.{with_list, Work}
use Rattle.rz_tools.specs.Step.{done_by, IsBehind, Means, Steps, WarnedFault, with_work}
use Rattle.rz_tools_values.specs.declared.setting.Setting.{Setting}

-- whatever the rest of the statements means after this, all mean so
abbrev pub LeadsTo : Around → Work → List (List Token) → List (List Token) → Work → Type 0
LeadsTo around start all rest work = (answer : Result Work WarnedFault) → Means around work rest answer → Means around start all answer

-- the statements of the tokens that are left lead to all of them
abbrev pub LeadsFrom : Around → Work → List Token → List Token → Work → Type 0
LeadsFrom around start tokens left work =
    (statements : List (List Token)) → AreStatements tokens statements → (rest : List (List Token)) × AreStatements left rest × LeadsTo around start statements rest work

-- the same where the files are told, all of one setting and paths
abbrev pub LeadsIn : Setting → List (List ℕ) → Option Files → Work → List Token → List Token → Work → Type 0
LeadsIn setting paths told start tokens left work = IfSome told (λ files. LeadsFrom (around setting paths files) start tokens left work)

module _ (setting : Setting) (paths : List (List ℕ)) (start : Work) (tokens left after statement : List Token) (work : Work)
    (first : (statements : List (List Token)) → AreStatements left statements → BeginsWith (Some statement) statements after) where
  module _ (files : Files) (leads : LeadsFrom (around setting paths files) start tokens left work) where
    leads_next : (next : Work) → Steps (around setting paths files) work (map (numbered setting.tool) statement) (Ok next)
        → LeadsFrom (around setting paths files) start tokens after next
    leads_next next steps statements are =
        let so = leads statements are in
        let begins = first so.0 so.1 in (
          begins.0,
          begins.2,
          λ answer means. so.2 answer (subst (λ (ss : List (List Token)). Means (around setting paths files) work ss answer) (sym begins.1) (inl (next, steps, means))),
        )

    leads_to_fault : (stopped : WarnedFault) → Steps (around setting paths files) work (map (numbered setting.tool) statement) (Err stopped)
        → (statements : List (List Token)) → AreStatements tokens statements → Means (around setting paths files) start statements (Err stopped)
    leads_to_fault stopped steps statements are =
        let so = leads statements are in
        let begins = first so.0 so.1 in
        so.2 (Err stopped) (subst (λ (ss : List (List Token)). Means (around setting paths files) work ss (Err stopped)) (sym begins.1) (inr (stopped, steps, refl)))

    -- a statement that stops all
    leads_to_halt : (halt : Halt Fault) (end : Work) → Yields (with_work end (Err halt)) (Steps (around setting paths files) work (map (numbered setting.tool) statement))
        → (statements : List (List Token)) → AreStatements tokens statements → Yields (with_work end (Err halt)) (Means (around setting paths files) start statements)
    leads_to_halt (Refused fault) end steps statements are = leads_to_fault (record { fault = fault; warnings = end.warnings }) steps statements are
    leads_to_halt ReadFault end steps statements are = tt
    leads_to_halt NoMemory end steps statements are = tt

  -- and where the files are told as they were before
  pub leads_on : (before mid : Option Files) → mid ≡ before → LeadsIn setting paths before start tokens left work → (next : Work)
      → IfSome mid (λ files. Yields (with_work next (Ok tt)) (Steps (around setting paths files) work (map (numbered setting.tool) statement)))
      → LeadsIn setting paths before start tokens after next
  leads_on None mid same leads next steps = tt
  leads_on (Some files) mid same leads next steps =
      leads_next files leads next (subst (λ (o : Option Files). IfSome o (λ files. Yields (with_work next (Ok tt)) (Steps (around setting paths files) work (map (numbered setting.tool) statement)))) same steps)

  pub leads_to_stop : (before mid : Option Files) → mid ≡ before → LeadsIn setting paths before start tokens left work → (halt : Halt Fault) (end : Work)
      → IfSome mid (λ files. Yields (with_work end (Err halt)) (Steps (around setting paths files) work (map (numbered setting.tool) statement)))
      → IfSome before (λ files. (statements : List (List Token)) → AreStatements tokens statements → Yields (with_work end (Err halt)) (Means (around setting paths files) start statements))
  leads_to_stop None mid same leads halt end steps = tt
  leads_to_stop (Some files) mid same leads halt end steps =
      leads_to_halt files leads halt end (subst (λ (o : Option Files). IfSome o (λ files. Yields (with_work end (Err halt)) (Steps (around setting paths files) work (map (numbered setting.tool) statement)))) same steps)

pub leads_end : (setting : Setting) (paths : List (List ℕ)) (start : Work) (tokens left after : List Token) (work : Work) (before : Option Files)
    → LeadsIn setting paths before start tokens left work → ((statements : List (List Token)) → AreStatements left statements → BeginsWith None statements after)
    → IfSome before (λ files. (statements : List (List Token)) → AreStatements tokens statements → Yields (with_work work (Ok tt)) (Means (around setting paths files) start statements))
leads_end setting paths start tokens left after work None leads none = tt
leads_end setting paths start tokens left after work (Some files) leads none = λ statements are.
    let so = leads statements are in
    so.2 (Ok work) (subst (λ (ss : List (List Token)). Means (around setting paths files) work ss (Ok work)) (sym (none so.0 so.1)) refl)

-- before the first statement
pub leads_from : (setting : Setting) (paths : List (List ℕ)) (start : Work) (tokens left : List Token) → left ≡ tokens → (before : Option Files)
    → LeadsIn setting paths before start tokens left start
leads_from setting paths start tokens left same None = tt
leads_from setting paths start tokens left same (Some files) = λ statements are.
    (statements, subst (λ (ts : List Token). AreStatements ts statements) (sym same) are, λ answer means. means)

-- What holds of all tokens holds of those of a front and of the rest.

pub lexed_parts : (front left : List Token) → AreLexed (front ++ left) → AreLexed front × AreLexed left
lexed_parts [] left all = (tt, all)
lexed_parts (t ∷ front) left all = let parts = lexed_parts front left all.1 in ((all.0, parts.0), parts.1)

pub within_parts : (files : ℕ) (front left : List Token) → AreWithin files (front ++ left) → AreWithin files front × AreWithin files left
within_parts files [] left all = (tt, all)
within_parts files (t ∷ front) left all = let parts = within_parts files front left all.1 in ((all.0, parts.0), parts.1)

pub has_tokens : (front tokens left : List Token) → tokens ≡ front ++ left → length left < length tokens → 0 < length front
has_tokens front tokens left are fewer = omega (arith, fewer, ap (λ (ts : List Token). length ts) are, length-append front left)

-- all of the numbered tokens
pub numbered_span : (tool : Tool) (statement tokens : List Token) (size : ℕ) → size ≡ length tokens → tokens ≡ map (numbered tool) statement
    → take (size - 0) (drop 0 tokens) ≡ map (numbered tool) statement
numbered_span tool statement tokens size is are = ap (λ n. take n tokens) same ∙ take_all (length tokens) tokens (omega arith) ∙ are
  where
    same : size - 0 ≡ length tokens
    same = omega (arith, is)

-- the first of them has the mark of all
pub first_mark : (tool : Tool) (statement tokens : List Token) (first : Token) → tokens ≡ map (numbered tool) statement → slice_get tokens 0 ≡ Some first
    → mark_of (map (numbered tool) statement) ≡ first.mark
first_mark tool statement tokens first are at = subst (λ (ts : List Token). mark_of ts ≡ first.mark) are (by tokens at)
  where
    by : (ts : List Token) → slice_get ts 0 ≡ Some first → mark_of ts ≡ first.mark
    by [] at = cc
    by (t ∷ ts) at = ap (λ (x : Token). x.mark) (same_Some t first at)

-- the end of a call that reads no files
pub halt_is : (stop : Stop Fault) (result : Result (Unit {0}) (Halt Fault)) → IsErrAnd result (λ halt. halt ≡ halt_of stop) → result ≡ Err (halt_of stop)
halt_is stop (Ok nothing) is = absurd is
halt_is stop (Err halt) is = ap (λ (h : Halt Fault). Err h) is

-- One statement.

-- Rez does it
pub rez_behind : (around : Around) (mark : Mark) (work : Work) (statement : Statement) (answer : Result Work Fault) → around.setting.tool ≡ tools.Rez
    → IsBehind around mark work statement answer → IsBehind around mark work (done_by around.setting.tool statement) answer
rez_behind around mark work statement answer rez so = by around.setting.tool rez
  where
    by : (tool : Tool) → tool ≡ tools.Rez → IsBehind around mark work (done_by tool statement) answer
    by tools.Rez is = so
    by tools.DeRez is = absurd (cc is)

-- what holds of a statement, and of one that does nothing, holds of what a tool does of it
pub done_so : (P : Statement → Type 0) (tool : Tool) (statement : Statement) → P Empty → P statement → P (done_by tool statement)
done_so P tools.Rez statement nothing so = so
done_so P tools.DeRez Empty nothing so = nothing
done_so P tools.DeRez (Data raw) nothing so = nothing
done_so P tools.DeRez (Lists one) nothing so = nothing
done_so P tools.DeRez (Compiles one) nothing so = nothing
done_so P tools.DeRez (Declares one) nothing so = so

module _ (around : Around) (work : Work) (ts : List Token) where
  pub stopped : (stop : Stop Fault) (given : Result (Unit {0}) (Halt Fault)) → Meets (seen statement_of (Err stop)) (Parses ts) → given ≡ Err (halt_of stop)
      → Yields (with_work work given) (Steps around work ts)
  stopped stop given parsed is = subst (λ (r : Result (Unit {0}) (Halt Fault)). Yields (with_work work r) (Steps around work ts)) (sym is) (by stop parsed)
    where
      by : (stop : Stop Fault) → Meets (seen statement_of (Err stop)) (Parses ts) → Yields (with_work work (Err (halt_of stop))) (Steps around work ts)
      by (stops.Refused fault) parsed = (inr (fault, parsed, refl), refl)
      by stops.NoMemory parsed = tt

  -- what the tool does of the statement that stands there
  module _ (mark : Mark) (same : mark_of ts ≡ mark) (statement does : Statement) (parsed : Parses ts (Ok statement)) (is : does ≡ done_by around.setting.tool statement) where
    answered : (answer : Result Work Fault) → IsBehind around mark work does answer
        → Then (Parses ts) (λ one. IsBehind around (mark_of ts) work (done_by around.setting.tool one)) answer
    answered answer so =
        inl (
          statement,
          parsed,
          subst (λ (one : Statement). IsBehind around (mark_of ts) work one answer) is
              (subst (λ (m : Mark). IsBehind around m work does answer) (sym same) so),
        )

    -- a call did it
    pub did : (result : Result (Unit {0}) (Halt Fault)) (after : Work) → Yields (left after result) (IsBehind around mark work does)
        → OnRefusal result (λ fault. after.warnings ≡ work.warnings) → Yields (with_work after result) (Steps around work ts)
    did (Ok nothing) after so kept = answered (Ok after) so
    did (Err (Refused fault)) after so kept = (answered (Err fault) so, kept)
    did (Err ReadFault) after so kept = tt
    did (Err NoMemory) after so kept = tt

    -- and one that changes the list alone
    pub listed : (answers : Result (List Resource) Fault → Type 0)
        → ((list : Result (List Resource) Fault) → answers list → IsBehind around mark work does (with_list work list))
        → (result : Result (Unit {0}) (Halt Fault)) (after : List Resource) → Yields (left after result) answers
        → Yields (with_work (record work { list = after }) result) (Steps around work ts)
    listed answers makes (Ok nothing) after so = answered (Ok (record work { list = after })) (makes (Ok after) so)
    listed answers makes (Err (Refused fault)) after so = (answered (Err fault) (makes (Err fault) so), refl)
    listed answers makes (Err ReadFault) after so = tt
    listed answers makes (Err NoMemory) after so = tt

-- each token is where all are
pub within_at : (files : ℕ) (tokens : List Token) (k : ℕ) (token : Token) → AreWithin files tokens → slice_get tokens k ≡ Some token → token.mark.file < files
within_at files [] k token all at = cc
within_at files (t ∷ ts) zero token all at = subst (λ (x : Token). x.mark.file < files) (same_Some t token at) all.0
within_at files (t ∷ ts) (suc k) token all at = within_at files ts k token all.1 at
