-- A program is what its entries give.
use Rattle.std.proofs.Common.{◌≡◌, ℕ, zero, suc, ◌-◌, inl, inr, List, [], ◌∷◌, ◌++◌, length, Option, Some, None, Ok, Err, refl, sym, ap, subst, ◌∙◌}
use Rattle.std.specs.declared.result.Result.{Result}
use Rattle.rz_core.specs.declared.fault.Fault.{Fault}
use Rattle.rz_core.specs.declared.fault.Mark.{Mark}
use Rattle.rz_folder.specs.Folder.{Files}
use Rattle.rz_lex.specs.declared.raw_line.RawLine.{RawLine}
use Rattle.rz_core.specs.Answers.{Then}
use Rattle.rz_pre.specs.Line.{Does}
use Rattle.rz_folder.specs.Names.{file_of, missing_file, names_of, utf8_name}
use Rattle.rz_pre.specs.Program.{bad_text, ends, fails, innermost, levels_below, opens_after, state_after, too_deep, with_file, Follows, IncludedGoes, Includes, LinesGo, NamedGoes, NamesGo, OpensAs, State, TextGoes}
use Rattle.rz_pre.specs.declared.program.Failure.{Failure}
use Rattle.rz_pre_laws.specs.Unfolding.{behind_all, left_open, outcome, BehindLine, EachActs, Entry, FileUnfolds, IncludedUnfolds, Line, LinesUnfold, NamesUnfold, Opened, Stretch}
use Rattle.rz_pre.specs.declared.act.Act.{Act}
use Rattle.rz_pre.specs.declared.act.Act.TheVariants as acts
use Rattle.rz_pre.specs.declared.condition.Tool.{Tool}
use Rattle.rz_pre.specs.declared.conditional.Open.{Open}

abbrev ok : {X : Type 0} → X → Result X Failure
ok value = Ok value

abbrev err : {X : Type 0} → Failure → Result X Failure
err failure = Err failure

ok_is : {X : Type 0} (x y : X) → ok x ≡ ok y → x ≡ y
ok_is x y is = cc

err_is : (X : Type 0) (f g : Failure) → err {X = X} f ≡ err g → f ≡ g
err_is X f g is = cc

ok_err : {X : Type 0} (x : X) (f : Failure) → ok x ≡ err f → ⊥
ok_err x f is = cc

behind_append : (xs ys : List Entry) (s : State) → behind_all (xs ++ ys) s ≡ behind_all ys (behind_all xs s)
behind_append [] ys s = refl
behind_append (Opened name ∷ xs) ys s = behind_append xs ys (with_file name s)
behind_append (Line level around line act ∷ xs) ys s = behind_append xs ys (state_after act s)

outcome_file : (name : List ℕ) (entries : List Entry) (fault : Option Fault) (s : State) → outcome entries fault (with_file name s) ≡ outcome (Opened name ∷ entries) fault s
outcome_file name entries None s = refl
outcome_file name entries (Some fault) s = refl

module _ (tool : Tool) where
  each_append : (xs ys : List Entry) (s : State) → EachActs tool xs s → EachActs tool ys (behind_all xs s) → EachActs tool (xs ++ ys) s
  each_append [] ys s each more = more
  each_append (Opened name ∷ xs) ys s each more = each_append xs ys (with_file name s) each more
  each_append (Line level around line act ∷ xs) ys s each more = (each.0, each_append xs ys (state_after act s) each.1 more)

  outcome_line : (level : ℕ) (around : Option Open) (line : RawLine) (act : Act) (inner more : List Entry) (fault : Option Fault) (s : State)
      → outcome more fault (behind_all inner (state_after act s)) ≡ outcome (Line level around line act ∷ (inner ++ more)) fault s
  outcome_line level around line act inner more None s = ap ok (sym (behind_append inner more (state_after act s)))
  outcome_line level around line act inner more (Some fault) s = ap (fails fault) (sym (behind_append inner more (state_after act s)))

  -- what is answered has entries and maybe a fault
  pub record Unfolded (stretch : Stretch) (s : State) (answer : Result State Failure) : Type 0 where
    pub entries : List Entry
    pub fault : Option Fault
    pub unfolds : stretch entries fault
    pub each : EachActs tool entries s
    pub is : answer ≡ outcome entries fault s

  -- the answer after a line
  abbrev next_of : List Open → List Entry → Option Fault → State → Result (List Open × State) Failure
  next_of opens inner None s = Ok (opens, behind_all inner s)
  next_of opens inner (Some fault) s = fails fault (behind_all inner s)

  record Followed (stretch : Stretch) (opens : List Open) (s : State) (next : Result (List Open × State) Failure) : Type 0 where
    pub inner : List Entry
    pub fault : Option Fault
    pub unfolds : stretch inner fault
    pub each : EachActs tool inner s
    pub is : next ≡ next_of opens inner fault s

  module _ (Reads : Includes) (Inner : List ℕ → Mark → State → Stretch)
      (reads : (name : List ℕ) (mark : Mark) (s : State) (answer : Result State Failure) → Reads name mark s answer → Unfolded (Inner name mark s) s answer) where
    included : (opens : List Open) (s after : State) (stretch : Stretch) (next : Result (List Open × State) Failure)
        → Unfolded stretch s (Ok after) → next ≡ Ok (opens, after) → Followed stretch opens s next
    included opens s after stretch next u is = by u.fault u.unfolds u.is
      where
        by : (fault : Option Fault) → stretch u.entries fault → Ok after ≡ outcome u.entries fault s → Followed stretch opens s next
        by None unfolds same = record { inner = u.entries; fault = None; unfolds = unfolds; each = u.each; is = is ∙ ap (λ (t : State). Ok (opens, t)) (ok_is after (behind_all u.entries s) same) }
        by (Some fault) unfolds same = absurd (ok_err after (record { fault = fault; files = (behind_all u.entries s).files }) same)

    broken : (opens : List Open) (s : State) (failure : Failure) (stretch : Stretch) (next : Result (List Open × State) Failure)
        → Unfolded stretch s (Err failure) → next ≡ Err failure → Followed stretch opens s next
    broken opens s failure stretch next u is = by u.fault u.unfolds u.is
      where
        by : (fault : Option Fault) → stretch u.entries fault → Err failure ≡ outcome u.entries fault s → Followed stretch opens s next
        by None unfolds same = absurd (ok_err (behind_all u.entries s) failure (sym same))
        by (Some fault) unfolds same = record {
          inner = u.entries;
          fault = Some fault;
          unfolds = unfolds;
          each = u.each;
          is = is ∙ ap err (err_is State failure (record { fault = fault; files = (behind_all u.entries s).files }) same);
        }

    plain : (opens : List Open) (s : State) (next : Result (List Open × State) Failure) → next ≡ Ok (opens, s)
        → Followed (λ entries fault. (entries ≡ []) × (fault ≡ None)) opens s next
    plain opens s next is = record { inner = []; fault = None; unfolds = (refl, refl); each = tt; is = is }

    follows : (mark : Mark) (act : Act) (opens : List Open) (s : State) (next : Result (List Open × State) Failure) → Follows Reads mark act opens s next
        → Followed (BehindLine Inner mark act (state_after act s)) (opens_after mark act opens) (state_after act s) next
    follows mark (acts.Include name) opens s next (inl (after, read, is)) = included opens s after (Inner name mark s) next (reads name mark s (Ok after) read) is
    follows mark (acts.Include name) opens s next (inr (failure, read, is)) = broken opens s failure (Inner name mark s) next (reads name mark s (Err failure) read) is
    follows mark acts.Nothing opens s next is = plain opens s next is
    follows mark (acts.Put tokens) opens s next is = plain opens _ next is
    follows mark (acts.Set word body) opens s next is = plain opens _ next is
    follows mark (acts.Begin first) opens s next is = plain _ s next is
    follows mark (acts.Turn to is_last) opens s next is = plain _ s next is
    follows mark acts.End opens s next is = plain _ s next is

    module _ (level : ℕ) where
      -- a line that is done, what stands after it, and the lines that follow
      goes_on : (line : RawLine) (ls : List RawLine) (ending : Option Fault) (opens : List Open) (s : State) (answer : Result State Failure) (act : Act)
          → Does s.live tool (innermost opens) line (Ok act) → (next : List Open × State)
          → Followed (BehindLine Inner line.mark act (state_after act s)) (opens_after line.mark act opens) (state_after act s) (Ok next)
          → (LinesGo Reads tool ls ending next.0 next.1 answer → Unfolded (LinesUnfold Inner tool level ls ending next.0 next.1) next.1 answer)
          → LinesGo Reads tool ls ending next.0 next.1 answer → Unfolded (LinesUnfold Inner tool level (line ∷ ls) ending opens s) s answer
      goes_on line ls ending opens s answer act does next f later further = by f.fault f.unfolds f.is
        where
          by : (fault : Option Fault) → BehindLine Inner line.mark act (state_after act s) f.inner fault
              → Ok next ≡ next_of (opens_after line.mark act opens) f.inner fault (state_after act s)
              → Unfolded (LinesUnfold Inner tool level (line ∷ ls) ending opens s) s answer
          by None inner same =
              let point = ok_is next (opens_after line.mark act opens, behind_all f.inner (state_after act s)) same in
              let u = subst (λ (p : List Open × State). Unfolded (LinesUnfold Inner tool level ls ending p.0 p.1) p.1 answer) point (later further) in record {
                entries = Line level (innermost opens) line act ∷ (f.inner ++ u.entries);
                fault = u.fault;
                unfolds = inr (inr (act, f.inner, u.entries, does, inner, refl, u.unfolds));
                each = (does, each_append f.inner u.entries (state_after act s) f.each u.each);
                is = u.is ∙ outcome_line level (innermost opens) line act f.inner u.entries u.fault s;
              }
          by (Some fault) inner same = absurd (ok_err next (record { fault = fault; files = (behind_all f.inner (state_after act s)).files }) same)

      stops : (line : RawLine) (ls : List RawLine) (ending : Option Fault) (opens : List Open) (s : State) (answer : Result State Failure) (act : Act)
          → Does s.live tool (innermost opens) line (Ok act) → (failure : Failure)
          → Followed (BehindLine Inner line.mark act (state_after act s)) (opens_after line.mark act opens) (state_after act s) (Err failure)
          → answer ≡ Err failure → Unfolded (LinesUnfold Inner tool level (line ∷ ls) ending opens s) s answer
      stops line ls ending opens s answer act does failure f is = by f.fault f.unfolds f.is
        where
          by : (fault : Option Fault) → BehindLine Inner line.mark act (state_after act s) f.inner fault
              → Err failure ≡ next_of (opens_after line.mark act opens) f.inner fault (state_after act s)
              → Unfolded (LinesUnfold Inner tool level (line ∷ ls) ending opens s) s answer
          by None inner same = absurd (ok_err (opens_after line.mark act opens, behind_all f.inner (state_after act s)) failure (sym same))
          by (Some fault) inner same = record {
            entries = Line level (innermost opens) line act ∷ f.inner;
            fault = Some fault;
            unfolds = inr (inl (act, f.inner, fault, does, inner, refl, refl));
            each = (does, f.each);
            is = is ∙ ap err (err_is (List Open × State) failure (record { fault = fault; files = (behind_all f.inner (state_after act s)).files }) same);
          }

      lines : (ls : List RawLine) (ending : Option Fault) (opens : List Open) (s : State) (answer : Result State Failure)
          → LinesGo Reads tool ls ending opens s answer → Unfolded (LinesUnfold Inner tool level ls ending opens s) s answer
      lines [] None opens s answer is = record { entries = []; fault = left_open opens; unfolds = (refl, refl); each = tt; is = is ∙ at_end opens }
        where
          at_end : (opens : List Open) → ends opens s ≡ outcome [] (left_open opens) s
          at_end [] = refl
          at_end (one ∷ opens) = refl
      lines [] (Some fault) opens s answer is = record { entries = []; fault = Some fault; unfolds = (refl, refl); each = tt; is = is }
      lines (line ∷ ls) ending opens s answer (inl (next, inl (act, does, followed), further)) =
          goes_on line ls ending opens s answer act does next (follows line.mark act opens s (Ok next) followed) (lines ls ending next.0 next.1 answer) further
      lines (line ∷ ls) ending opens s answer (inl (next, inr (failure, does, is), further)) = absurd (ok_err next failure is)
      lines (line ∷ ls) ending opens s answer (inr (failure, inl (act, does, followed), is)) =
          stops line ls ending opens s answer act does failure (follows line.mark act opens s (Err failure) followed) is
      lines (line ∷ ls) ending opens s answer (inr (failure, inr (own, does, same), is)) = record {
        entries = [];
        fault = Some own.fault;
        unfolds = inl (own.fault, does.0, refl, refl);
        each = tt;
        is = is ∙ ap err (err_is (List Open × State) failure own same ∙ λ i. record { fault = own.fault; files = does.1 i });
      }

      opened_is : (missing : Fault) (s : State) (found : Option (List ℕ × List ℕ)) (failure : Failure) → OpensAs missing s found (Err failure)
          → Unfolded (FileUnfolds Inner tool level missing s found) s (Err failure)
      opened_is missing s None failure is = record {
        entries = [];
        fault = Some missing;
        unfolds = (refl, refl);
        each = tt;
        is = ap err (err_is (List ℕ × State) failure (record { fault = missing; files = s.files }) is);
      }
      opened_is missing s (Some found) failure (inl (text, has, is)) = absurd (ok_err (text, with_file found.0 s) failure (sym is))
      opened_is missing s (Some found) failure (inr (own, (bad, same), is)) = record {
        entries = Opened found.0 ∷ [];
        fault = Some own.fault;
        unfolds = ([], refl, inl (bad.0, bad.1, refl, ap Some bad.2));
        each = tt;
        is = ap err (err_is (List ℕ × State) failure own is ∙ λ i. record { fault = own.fault; files = same i });
      }

      in_file : (missing : Fault) (s : State) (found : Option (List ℕ × List ℕ)) (opened : List ℕ × State) (answer : Result State Failure) → OpensAs missing s found (Ok opened)
          → TextGoes Reads tool (length s.files) opened.0 opened.1 answer → Unfolded (FileUnfolds Inner tool level missing s found) s answer
      in_file missing s None opened answer is goes = absurd (ok_err opened (record { fault = missing; files = s.files }) is)
      in_file missing s (Some found) opened answer (inl (text, has, is)) goes =
          let same = ok_is opened (text, with_file found.0 s) is in
          let here = subst (λ (p : List ℕ × State). TextGoes Reads tool (length s.files) p.0 p.1 answer) same goes in
          let u = lines here.0 here.1 [] (with_file found.0 s) answer here.3 in record {
            entries = Opened found.0 ∷ u.entries;
            fault = u.fault;
            unfolds = (u.entries, refl, inr (text, here.0, here.1, has, here.2, u.unfolds));
            each = u.each;
            is = u.is ∙ outcome_file found.0 u.entries u.fault s;
          }
      in_file missing s (Some found) opened answer (inr (own, bad, is)) goes = absurd (ok_err opened own is)

  again : (stretch : Stretch) (s : State) (answer : Result State Failure) (failure : Failure) → answer ≡ Err failure → Unfolded stretch s (Err failure) → Unfolded stretch s answer
  again stretch s answer failure is u = record { entries = u.entries; fault = u.fault; unfolds = u.unfolds; each = u.each; is = is ∙ u.is }

  outcome_append : (xs ys : List Entry) (fault : Option Fault) (s : State) → outcome ys fault (behind_all xs s) ≡ outcome (xs ++ ys) fault s
  outcome_append xs ys None s = ap ok (sym (behind_append xs ys s))
  outcome_append xs ys (Some fault) s = ap (fails fault) (sym (behind_append xs ys s))

  module _ (files : Files) (paths : List (List ℕ)) where
    abbrev NamedUnfolds : List ℕ → State → Stretch
    NamedUnfolds name s = FileUnfolds (IncludedUnfolds tool files paths levels_below) tool 1 (missing_file None name) s (file_of files (name ∷ []))

    first_named : (name : List ℕ) (names : List (List ℕ)) (s after : State) (answer : Result State Failure) → Unfolded (NamedUnfolds name s) s (Ok after)
        → Unfolded (NamesUnfold tool files paths names after) after answer → Unfolded (NamesUnfold tool files paths (name ∷ names) s) s answer
    first_named name names s after answer u later = by u.fault u.unfolds u.is
      where
        by : (fault : Option Fault) → NamedUnfolds name s u.entries fault → Ok after ≡ outcome u.entries fault s → Unfolded (NamesUnfold tool files paths (name ∷ names) s) s answer
        by None unfolds same =
            let more = subst (λ (t : State). Unfolded (NamesUnfold tool files paths names t) t answer) (ok_is after (behind_all u.entries s) same) later in record {
              entries = u.entries ++ more.entries;
              fault = more.fault;
              unfolds = inr (u.entries, more.entries, unfolds, refl, more.unfolds);
              each = each_append u.entries more.entries s u.each more.each;
              is = more.is ∙ outcome_append u.entries more.entries more.fault s;
            }
        by (Some fault) unfolds same = absurd (ok_err after (record { fault = fault; files = (behind_all u.entries s).files }) same)

    first_broken : (name : List ℕ) (names : List (List ℕ)) (s : State) (failure : Failure) (answer : Result State Failure) → answer ≡ Err failure
        → Unfolded (NamedUnfolds name s) s (Err failure) → Unfolded (NamesUnfold tool files paths (name ∷ names) s) s answer
    first_broken name names s failure answer is u = by u.fault u.unfolds u.is
      where
        by : (fault : Option Fault) → NamedUnfolds name s u.entries fault → Err failure ≡ outcome u.entries fault s → Unfolded (NamesUnfold tool files paths (name ∷ names) s) s answer
        by None unfolds same = absurd (ok_err (behind_all u.entries s) failure (sym same))
        by (Some fault) unfolds same = record { entries = u.entries; fault = Some fault; unfolds = inl (fault, unfolds, refl); each = u.each; is = is ∙ same }

    at_included : (levels : ℕ) (name : List ℕ) (mark : Mark) (s : State) (answer : Result State Failure) → IncludedGoes tool files paths levels name mark s answer
        → Unfolded (IncludedUnfolds tool files paths levels name mark s) s answer
    at_included zero name mark s answer is = record { entries = []; fault = Some (too_deep mark); unfolds = (refl, refl); each = tt; is = is }
    at_included (suc levels) name mark s answer (inl (opened, enters, goes)) =
        in_file (IncludedGoes tool files paths levels) (IncludedUnfolds tool files paths levels) (at_included levels) (16 - levels)
        (missing_file (Some mark) name) s (file_of files (names_of paths (utf8_name name))) opened answer enters goes
    at_included (suc levels) name mark s answer (inr (failure, enters, is)) =
        again (IncludedUnfolds tool files paths (suc levels) name mark s) s answer failure is
        (opened_is (IncludedGoes tool files paths levels) (IncludedUnfolds tool files paths levels) (at_included levels) (16 - levels)
        (missing_file (Some mark) name) s (file_of files (names_of paths (utf8_name name))) failure enters)

    named : (name : List ℕ) (s : State) (answer : Result State Failure) → NamedGoes tool files paths name s answer
        → Unfolded (FileUnfolds (IncludedUnfolds tool files paths levels_below) tool 1 (missing_file None name) s (file_of files (name ∷ []))) s answer
    named name s answer (inl (opened, enters, goes)) =
        in_file (IncludedGoes tool files paths levels_below) (IncludedUnfolds tool files paths levels_below) (at_included levels_below) 1
        (missing_file None name) s (file_of files (name ∷ [])) opened answer enters goes
    named name s answer (inr (failure, enters, is)) =
        again _ s answer failure is
        (opened_is (IncludedGoes tool files paths levels_below) (IncludedUnfolds tool files paths levels_below) (at_included levels_below) 1
        (missing_file None name) s (file_of files (name ∷ [])) failure enters)

    pub all_names : (names : List (List ℕ)) (s : State) (answer : Result State Failure) → NamesGo tool files paths names s answer
        → Unfolded (NamesUnfold tool files paths names s) s answer
    all_names [] s answer is = record { entries = []; fault = None; unfolds = (refl, refl); each = tt; is = is }
    all_names (name ∷ names) s answer (inl (after, goes, further)) =
        first_named name names s after answer (named name s (Ok after) goes) (all_names names after answer further)
    all_names (name ∷ names) s answer (inr (failure, goes, is)) = first_broken name names s failure answer is (named name s (Err failure) goes)

-- What the entries give is the program.

module _ (tool : Tool) where
  module _ (Reads : Includes) (Inner : List ℕ → Mark → State → Stretch)
      (back : (name : List ℕ) (mark : Mark) (s : State) (entries : List Entry) (fault : Option Fault) → Inner name mark s entries fault → Reads name mark s (outcome entries fault s)) where
    include_back : (name : List ℕ) (mark : Mark) (opens : List Open) (s : State) (inner : List Entry) (fault : Option Fault)
        → Reads name mark s (outcome inner fault s) → Follows Reads mark (acts.Include name) opens s (next_of tool opens inner fault s)
    include_back name mark opens s inner None reads = inl (behind_all inner s, reads, refl)
    include_back name mark opens s inner (Some fault) reads = inr (record { fault = fault; files = (behind_all inner s).files }, reads, refl)

    plain_back : (opens : List Open) (s : State) (inner : List Entry) (fault : Option Fault) → (inner ≡ []) × (fault ≡ None) → next_of tool opens inner fault s ≡ Ok (opens, s)
    plain_back opens s inner fault none = λ i. next_of tool opens (none.0 i) (none.1 i) s

    follow_back : (mark : Mark) (act : Act) (opens : List Open) (s : State) (inner : List Entry) (fault : Option Fault) → BehindLine Inner mark act (state_after act s) inner fault
        → Follows Reads mark act opens s (next_of tool (opens_after mark act opens) inner fault (state_after act s))
    follow_back mark (acts.Include name) opens s inner fault unfolds = include_back name mark opens s inner fault (back name mark s inner fault unfolds)
    follow_back mark acts.Nothing opens s inner fault none = plain_back opens s inner fault none
    follow_back mark (acts.Put tokens) opens s inner fault none = plain_back opens _ inner fault none
    follow_back mark (acts.Set word body) opens s inner fault none = plain_back opens _ inner fault none
    follow_back mark (acts.Begin first) opens s inner fault none = plain_back _ s inner fault none
    follow_back mark (acts.Turn to is_last) opens s inner fault none = plain_back _ s inner fault none
    follow_back mark acts.End opens s inner fault none = plain_back _ s inner fault none

    module _ (level : ℕ) where
      end_back : (opens : List Open) (s : State) → outcome [] (left_open opens) s ≡ ends opens s
      end_back [] s = refl
      end_back (one ∷ opens) s = refl

      lines_back : (ls : List RawLine) (ending : Option Fault) (opens : List Open) (s : State) (entries : List Entry) (fault : Option Fault)
          → LinesUnfold Inner tool level ls ending opens s entries fault → LinesGo Reads tool ls ending opens s (outcome entries fault s)
      lines_back [] None opens s entries fault none = (λ i. outcome (none.0 i) (none.1 i) s) ∙ end_back opens s
      lines_back [] (Some open_comment) opens s entries fault none = λ i. outcome (none.0 i) (none.1 i) s
      lines_back (line ∷ ls) ending opens s entries fault (inl (own, does, none, is)) =
          inr (record { fault = own; files = s.files }, inr (record { fault = own; files = s.files }, (does, refl), refl), λ i. outcome (none i) (is i) s)
      lines_back (line ∷ ls) ending opens s entries fault (inr (inl (act, inner, own, does, unfolds, are, is))) =
          inr (
            record { fault = own; files = (behind_all inner (state_after act s)).files },
            inl (act, does, follow_back line.mark act opens s inner (Some own) unfolds),
            λ i. outcome (are i) (is i) s,
          )
      lines_back (line ∷ ls) ending opens s entries fault (inr (inr (act, inner, more, does, unfolds, are, further))) =
          inl (
            (opens_after line.mark act opens, behind_all inner (state_after act s)),
            inl (act, does, follow_back line.mark act opens s inner None unfolds),
            subst (LinesGo Reads tool ls ending (opens_after line.mark act opens) (behind_all inner (state_after act s)))
                (outcome_line tool level (innermost opens) line act inner more fault s ∙ λ i. outcome (sym are i) fault s)
                (lines_back ls ending (opens_after line.mark act opens) (behind_all inner (state_after act s)) more fault further),
          )

      -- a file, where this is what opening it answers
      file_back : (missing : Fault) (s : State) (found : Option (List ℕ × List ℕ)) (entries : List Entry) (fault : Option Fault)
          → FileUnfolds Inner tool level missing s found entries fault
          → Then (OpensAs missing s found) (λ opened. TextGoes Reads tool (length s.files) opened.0 opened.1) (outcome entries fault s)
      file_back missing s None entries fault none = inr (record { fault = missing; files = s.files }, refl, λ i. outcome (none.0 i) (none.1 i) s)
      file_back missing s (Some found) entries fault (rest, are, inl (offset, bad, none, is)) =
          inr (
            record { fault = bad_text (length s.files) offset; files = s.files ++ found.0 ∷ [] },
            inr (record { fault = bad_text (length s.files) offset; files = s.files ++ found.0 ∷ [] }, ((offset, bad, refl), refl), refl),
            (λ i. outcome (are i) (is i) s) ∙ λ i. outcome (Opened found.0 ∷ none i) (Some (bad_text (length s.files) offset)) s,
          )
      file_back missing s (Some found) entries fault (rest, are, inr (text, ls, ending, has, lines, unfolds)) =
          inl (
            (text, with_file found.0 s),
            inl (text, has, refl),
            (
              ls,
              ending,
              lines,
              subst (LinesGo Reads tool ls ending [] (with_file found.0 s)) (outcome_file found.0 rest fault s ∙ λ i. outcome (sym are i) fault s)
                  (lines_back ls ending [] (with_file found.0 s) rest fault unfolds),
            ),
          )

  module _ (files : Files) (paths : List (List ℕ)) where
    included_back : (levels : ℕ) (name : List ℕ) (mark : Mark) (s : State) (entries : List Entry) (fault : Option Fault)
        → IncludedUnfolds tool files paths levels name mark s entries fault → IncludedGoes tool files paths levels name mark s (outcome entries fault s)
    included_back zero name mark s entries fault none = λ i. outcome (none.0 i) (none.1 i) s
    included_back (suc levels) name mark s entries fault unfolds =
        file_back (IncludedGoes tool files paths levels) (IncludedUnfolds tool files paths levels) (included_back levels) (16 - levels)
        (missing_file (Some mark) name) s (file_of files (names_of paths (utf8_name name))) entries fault unfolds

    named_back : (name : List ℕ) (s : State) (entries : List Entry) (fault : Option Fault) → NamedUnfolds tool files paths name s entries fault → NamedGoes tool files paths name s (outcome entries fault s)
    named_back name s entries fault unfolds =
        file_back (IncludedGoes tool files paths levels_below) (IncludedUnfolds tool files paths levels_below) (included_back levels_below) 1
        (missing_file None name) s (file_of files (name ∷ [])) entries fault unfolds

    pub names_back : (names : List (List ℕ)) (s : State) (entries : List Entry) (fault : Option Fault)
        → NamesUnfold tool files paths names s entries fault → NamesGo tool files paths names s (outcome entries fault s)
    names_back [] s entries fault none = λ i. outcome (none.0 i) (none.1 i) s
    names_back (name ∷ names) s entries fault (inl (own, unfolds, is)) =
        inr (record { fault = own; files = (behind_all entries s).files }, named_back name s entries (Some own) unfolds, λ i. outcome entries (is i) s)
    names_back (name ∷ names) s entries fault (inr (first, more, unfolds, are, further)) =
        inl (
          behind_all first s,
          named_back name s first None unfolds,
          subst (NamesGo tool files paths names (behind_all first s)) (outcome_append tool first more fault s ∙ λ i. outcome (sym are i) fault s)
              (names_back names (behind_all first s) more fault further),
        )
