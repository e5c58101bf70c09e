-- What was read so far, against what is read in all.
use Rattle.std.proofs.Common.{◌≡◌, ℕ, zero, suc, ◌+◌, ◌<◌, ◌++◌, ◌≢◌, take, get_or, length, inl, inr, List, [], ◌∷◌, Option, Some, None, Ok, Err, IfSome, refl, sym, ap, subst, ◌∙◌}
use Rattle.std.specs.declared.result.Result.{Result}
use Rattle.std.specs.Prelude.{option_map}
use Rattle.std.specs.Str.{str_to_ascii_lowercase}
use Rattle.std.proofs.lemmas.List.{take_more}
use Rattle.std.proofs.lemmas.Option.{same_Some}
use Rattle.rz_core.proofs.Once.{Once}
use Rattle.rz_core.proofs.Stops.{yields_so}
use Rattle.rz_core.specs.declared.fault.Mark.{Mark}
use Rattle.rz_core.specs.declared.fault.Fault.{Fault}
use Rattle.rz_core.specs.declared.stop.Stop.{Stop}
use Rattle.rz_core.specs.declared.stop.Stop.TheVariants as stops
use Rattle.rz_folder.specs.Folder.{Files}
use Rattle.rz_lex.specs.Lines.{HasLines, StandsBefore}
use Rattle.rz_lex.specs.declared.joined.Placed.{Placed}
use Rattle.rz_lex.specs.declared.raw_line.RawLine.{RawLine}
use Rattle.rz_core.specs.Stop.{halt_of, IsReadFault, Meets, OnFault, OnRefusal, Yields}
use Rattle.rz_lex.specs.Lines.{HasOpenComment}
use Rattle.rz_pre.specs.Line.{Does}
use Rattle.rz_pre.specs.Program.{ends, fails, innermost, opens_after, state_after, too_deep, live_after, start, AheadGoes, Enters, Follows, HasText, IncludedGoes, Includes, LineGoes, LinesGo, NamedGoes, NamesGo, Opens, OpensAs, State, TextGoes}
use Rattle.rz_pre.specs.declared.program.Failure.{Failure}
use Rattle.rz_pre.specs.Live.{live_in, put, shapes_of, Live}
use Rattle.rz_pre.specs.Macros.{rows_of}
use Rattle.rz_pre.specs.Reading.{alone, included_in, state_of, together, with_state, Finishes, IsAnswer, OfProgram, Steps}
use Rattle.rz_pre.specs.declared.program.Def.{Def}
use Rattle.rz_pre.specs.declared.program.Program.{Program}
use Rattle.rz_pre.specs.declared.reading.Reading.{Reading}
use Rattle.rz_lex.specs.declared.token.Token.{Token}
use Rattle.rz_folder.specs.Names.{file_of, missing_file, names_of, utf8_name}
use Rattle.rz_core.specs.declared.stop.Halt.{Halt}
use Rattle.rz_core.specs.declared.stop.Halt.TheVariants as halts
use Rattle.rz_pre.specs.declared.act.Act.TheVariants as acts
use Rattle.rz_pre.specs.declared.act.Act.{Act}
use Rattle.rz_pre.specs.declared.condition.Tool.{Tool}
use Rattle.rz_pre.specs.declared.conditional.Open.{Open}

-- whatever is read of the other names, all names read so
abbrev pub NamesLead : Tool → Files → List (List ℕ) → List (List ℕ) → List (List ℕ) → State → State → Type 0
NamesLead tool files paths names rest before s =
    (answer : Result State Failure) → NamesGo tool files paths rest s answer → NamesGo tool files paths names before answer

-- whatever is read of the text ahead, the file reads so
abbrev pub LinesLead : Includes → Tool → ℕ → List Placed → State → List Placed → List Open → State → Type 0
LinesLead Reads tool file text before ahead opens s =
    (lines : List RawLine) (ending : Option Fault) (answer : Result State Failure)
    → HasLines file ahead lines ending → LinesGo Reads tool lines ending opens s answer → AheadGoes Reads tool file text before answer

-- the lines of a text, and how they end
abbrev pub SomeLines : ℕ → List Placed → Type 0
SomeLines file text = (lines : List RawLine) × (ending : Option Fault) × HasLines file text lines ending

module _ (Reads : Includes) (tool : Tool) (file : ℕ) (text : List Placed) (before : State) where
  abbrev Leads : List Placed → List Open → State → Type 0
  Leads ahead opens s = LinesLead Reads tool file text before ahead opens s

  pub leads_first : Leads text [] before
  leads_first = λ lines ending answer has goes. (lines, ending, has, goes)

  module _ (here : List Placed) (opens : List Open) (s : State) (leads : Leads here opens s) where
    pub leads_end : HasLines file here [] None → AheadGoes Reads tool file text before (ends opens s)
    leads_end has = leads [] None (ends opens s) has refl

    pub leads_comment : (fault : Fault) → HasLines file here [] (Some fault) → AheadGoes Reads tool file text before (fails fault s)
    leads_comment fault has = leads [] (Some fault) (fails fault s) has refl

    module _ (line : RawLine) (rest : List Placed) (stands : StandsBefore file here line rest) where
      pub leads_on : (after : List Open) (t : State) → LineGoes Reads tool line opens s (Ok (after, t)) → Leads rest after t
      leads_on after t goes = λ lines ending answer has further.
          leads (line ∷ lines) ending answer (stands lines ending has) (inl ((after, t), goes, further))

      pub leads_out : SomeLines file rest → (failure : Failure) → LineGoes Reads tool line opens s (Err failure) → AheadGoes Reads tool file text before (Err failure)
      leads_out some failure goes =
          leads (line ∷ some.0) some.1 (Err failure) (stands some.0 some.1 some.2) (inr (failure, goes, refl))

-- Included files.

abbrev failed : {X : Type 0} → Failure → Result X Failure
failed failure = Err failure

abbrev done : State → Result State Failure
done s = Ok s

same_failure : {X : Type 0} (one other : Failure) → failed {X = X} one ≡ failed other → one ≡ other
same_failure one other is = cc

same_state : (one other : State) → done one ≡ done other → one ≡ other
same_state one other is = cc

fails_so : {X Y : Type 0} (fault : Fault) (s : State) (failure : Failure) → failed {X = X} failure ≡ fails fault s → failed {X = Y} failure ≡ fails fault s
fails_so fault s failure is = ap Err (same_failure failure (record { fault = fault; files = s.files }) is)

module _ (tool : Tool) (files : Files) (paths : List (List ℕ)) where
  -- a file that can't be opened can't be read
  enters_out : (levels : ℕ) (name : List ℕ) (mark : Mark) (s : State) (failure : Failure)
      → Enters files paths levels name mark s (Err failure) → IncludedGoes tool files paths levels name mark s (Err failure)
  enters_out zero name mark s failure enters = fails_so (too_deep mark) s failure enters
  enters_out (suc levels) name mark s failure enters = inr (failure, enters, refl)

  enters_on : (below : ℕ) (name : List ℕ) (mark : Mark) (s : State) (text : List ℕ) (t : State) (answer : Result State Failure)
      → Enters files paths (suc below) name mark s (Ok (text, t)) → TextGoes (IncludedGoes tool files paths below) tool (length s.files) text t answer
      → IncludedGoes tool files paths (suc below) name mark s answer
  enters_on below name mark s text t answer enters goes = inl ((text, t), enters, goes)

-- A line.

module _ (Reads : Includes) (tool : Tool) (line : RawLine) (opens : List Open) (s : State) where
  -- an act that includes no file
  follows_plain : (act : Act) → included_in act ≡ None → Follows Reads line.mark act opens s (Ok (opens_after line.mark act opens, state_after act s))
  follows_plain acts.Nothing is = refl
  follows_plain (acts.Put tokens) is = refl
  follows_plain (acts.Include name) is = absurd cc
  follows_plain (acts.Set word body) is = refl
  follows_plain (acts.Begin first) is = refl
  follows_plain (acts.Turn next is_last) is = refl
  follows_plain acts.End is = refl

  included_is : (act : Act) (name : List ℕ) → included_in act ≡ Some name → act ≡ acts.Include name
  included_is acts.Nothing name is = absurd cc
  included_is (acts.Put tokens) name is = absurd cc
  included_is (acts.Include other) name is = ap acts.Include (same_Some other name is)
  included_is (acts.Set word body) name is = absurd cc
  included_is (acts.Begin first) name is = absurd cc
  included_is (acts.Turn next is_last) name is = absurd cc
  included_is acts.End name is = absurd cc

  pub steps_on : (after : List Open) (t : State) → Steps tool line opens s (Ok None) after t → LineGoes Reads tool line opens s (Ok (after, t))
  steps_on after t (act, does, none, behind, then) = inl (
    act,
    does,
    subst (λ (p : List Open × State). Follows Reads line.mark act opens s (Ok p)) (λ i. (sym behind i, sym then i)) (follows_plain act (sym none)),
  )

  -- a line that includes a file changes nothing by itself
  pub record Including (name : List ℕ) (after : List Open) (t : State) : Type 0 where
    pub does : Does s.live tool (innermost opens) line (Ok (acts.Include name))
    pub still : after ≡ opens
    pub state : t ≡ s

  pub steps_in : (name : List ℕ) (after : List Open) (t : State) → Steps tool line opens s (Ok (Some name)) after t → Including name after t
  steps_in name after t (act, does, some, behind, then) =
      let is = included_is act name (sym some) in record {
        does = subst (λ (a : Act). Does s.live tool (innermost opens) line (Ok a)) is does;
        still = behind ∙ ap (λ (a : Act). opens_after line.mark a opens) is;
        state = then ∙ ap (λ (a : Act). state_after a s) is;
      }

  pub includes : (name : List ℕ) (after : List Open) (t : State) → Including name after t
      → (answer : Result State Failure) (next : Result (List Open × State) Failure)
      → Reads name line.mark t answer → ((u : State) → answer ≡ Ok u → next ≡ Ok (after, u)) → ((failure : Failure) → answer ≡ Err failure → next ≡ Err failure)
      → LineGoes Reads tool line opens s next
  includes name after t i (Ok u) next reads ok err = inl (
    acts.Include name,
    i.does,
    inl (u, subst (λ (v : State). Reads name line.mark v (Ok u)) i.state reads, ok u refl ∙ ap (λ (os : List Open). Ok (os, u)) i.still),
  )
  includes name after t i (Err failure) next reads ok err = inl (
    acts.Include name,
    i.does,
    inr (failure, subst (λ (v : State). Reads name line.mark v (Err failure)) i.state reads, err failure refl),
  )

  pub steps_out : (fault : Fault) (after : List Open) (t : State) → Steps tool line opens s (Err (stops.Refused fault)) after t → LineGoes Reads tool line opens s (fails fault t)
  steps_out fault after t (does, same) = inr (record { fault = fault; files = t.files }, (does, ap (λ (v : State). v.files) same), refl)

-- what holds of the value of an option
pub at_some : {A : Type 0} (o : Option A) (x : A) → o ≡ Some x → (P : A → Type 0) → IfSome o P → P x
at_some None x is P so = absurd cc
at_some (Some y) x is P so = subst P (same_Some y x is) so

-- How a file is left, and how reading goes on.

module _ (tool : Tool) (files : Files) (paths : List (List ℕ)) (levels file : ℕ) (text : List Placed) (before : State)
    (here : List Placed) (opens : List Open) (s : State) (leads : LinesLead (IncludedGoes tool files paths levels) tool file text before here opens s) where
  abbrev Goes : Result State Failure → Type 0
  Goes answer = AheadGoes (IncludedGoes tool files paths levels) tool file text before answer

  pub left_in_comment : (X : Type 0) (stop : Stop Fault) → OnFault {X = X} (Err stop) (HasOpenComment file here []) → Yields (with_state alone s (Err (halt_of stop))) Goes
  left_in_comment X (stops.Refused fault) has = leads_comment (IncludedGoes tool files paths levels) tool file text before here opens s leads fault has
  left_in_comment X stops.NoMemory has = tt

  pub left_at_end : HasLines file here [] None → (result : Result (Unit {0}) (Halt Fault)) → Yields (with_state alone s result) (λ answer. answer ≡ ends opens s) → Yields (with_state alone s result) Goes
  left_at_end has (Ok nothing) is = subst Goes (sym is) (leads_end (IncludedGoes tool files paths levels) tool file text before here opens s leads has)
  left_at_end has (Err (halts.Refused fault)) is = subst Goes (sym is) (leads_end (IncludedGoes tool files paths levels) tool file text before here opens s leads has)
  left_at_end has (Err halts.ReadFault) is = tt
  left_at_end has (Err halts.NoMemory) is = tt

  module _ (line : RawLine) (rest : List Placed) (stands : StandsBefore file here line rest) where
    left : SomeLines file rest → (failure : Failure) → LineGoes (IncludedGoes tool files paths levels) tool line opens s (Err failure) → Goes (Err failure)
    left = leads_out (IncludedGoes tool files paths levels) tool file text before here opens s leads line rest stands

    pub left_in_line : SomeLines file rest → (stop : Stop Fault) (after : List Open) (t : State) → Steps tool line opens s (Err stop) after t → Yields (with_state alone t (Err (halt_of stop))) Goes
    left_in_line some (stops.Refused fault) after t steps =
        left some (record { fault = fault; files = t.files }) (steps_out (IncludedGoes tool files paths levels) tool line opens s fault after t steps)
    left_in_line some stops.NoMemory after t steps = tt

    pub on_behind : (after : List Open) (t : State) → Steps tool line opens s (Ok None) after t
        → LinesLead (IncludedGoes tool files paths levels) tool file text before rest after t
    on_behind after t steps = leads_on (IncludedGoes tool files paths levels) tool file text before here opens s leads line rest stands after t
        (steps_on (IncludedGoes tool files paths levels) tool line opens s after t steps)

    module _ (name : List ℕ) (after : List Open) (t : State) (steps : Steps tool line opens s (Ok (Some name)) after t) where
      fault_inside : (failure : Failure) → IncludedGoes tool files paths levels name line.mark t (Err failure) → LineGoes (IncludedGoes tool files paths levels) tool line opens s (Err failure)
      fault_inside failure goes =
          includes (IncludedGoes tool files paths levels) tool line opens s name after t
          (steps_in (IncludedGoes tool files paths levels) tool line opens s name after t steps) (Err failure) (Err failure) goes (λ u is. absurd cc) (λ other is. ap Err (same_failure {X = State} failure other is))

      pub left_in_opening : SomeLines file rest → (halt : Halt Fault) (u : State)
          → Yields (with_state together u (Err halt)) (Enters files paths levels name line.mark t) → Yields (with_state alone u (Err halt)) Goes
      left_in_opening some (halts.Refused fault) u enters =
          left some (record { fault = fault; files = u.files }) (fault_inside (record { fault = fault; files = u.files }) (enters_out tool files paths levels name line.mark t (record { fault = fault; files = u.files }) enters))
      left_in_opening some halts.ReadFault u enters = tt
      left_in_opening some halts.NoMemory u enters = tt

      module _ (source : List ℕ) (u : State) (below : ℕ) (deep : levels ≡ suc below) (enters : Enters files paths levels name line.mark t (Ok (source, u))) where
        goes_on : (answer : Result State Failure) → TextGoes (IncludedGoes tool files paths below) tool (length t.files) source u answer
            → IncludedGoes tool files paths levels name line.mark t answer
        goes_on answer goes = subst (λ (k : ℕ). IncludedGoes tool files paths k name line.mark t answer) (sym deep)
            (enters_on tool files paths below name line.mark t source u answer (subst (λ (k : ℕ). Enters files paths k name line.mark t (Ok (source, u))) deep enters) goes)

        pub left_inside : SomeLines file rest → (halt : Halt Fault) (v : State)
            → Yields (with_state alone v (Err halt)) (TextGoes (IncludedGoes tool files paths below) tool (length t.files) source u) → Yields (with_state alone v (Err halt)) Goes
        left_inside some (halts.Refused fault) v goes =
            left some (record { fault = fault; files = v.files }) (fault_inside (record { fault = fault; files = v.files })
            (goes_on (Err (record { fault = fault; files = v.files })) goes))
        left_inside some halts.ReadFault v goes = tt
        left_inside some halts.NoMemory v goes = tt

        pub on_inside : (v : State) → TextGoes (IncludedGoes tool files paths below) tool (length t.files) source u (Ok v)
            → LinesLead (IncludedGoes tool files paths levels) tool file text before rest after v
        on_inside v goes = leads_on (IncludedGoes tool files paths levels) tool file text before here opens s leads line rest stands after v
            (includes (IncludedGoes tool files paths levels) tool line opens s name after t
            (steps_in (IncludedGoes tool files paths levels) tool line opens s name after t steps) (Ok v) (Ok (after, v))
            (goes_on (Ok v) goes) (λ w is. ap (λ (x : State). Ok (after, x)) (same_state v w is)) (λ failure is. absurd cc))

-- Named files.

module _ (tool : Tool) (files : Files) (paths names rest : List (List ℕ)) (before s : State) (name : List ℕ)
    (leads : NamesLead tool files paths names (name ∷ rest) before s) where
  pub left_in_named : (halt : Halt Fault) (t : State) → Yields (with_state alone t (Err halt)) (NamedGoes tool files paths name s) → Yields (with_state alone t (Err halt)) (NamesGo tool files paths names before)
  left_in_named (halts.Refused fault) t goes = leads (fails fault t) (inr (record { fault = fault; files = t.files }, goes, refl))
  left_in_named halts.ReadFault t goes = tt
  left_in_named halts.NoMemory t goes = tt

  pub on_named : (t : State) → NamedGoes tool files paths name s (Ok t) → NamesLead tool files paths names rest before t
  on_named t goes = λ answer further. leads answer (inl (t, goes, further))

-- What a call leaves, from what it left before.

pub unread_leaves : {X Y : Type 0} (make : X → State → Y) (halt : Halt Fault) (s : State) (answers : Result Y Failure → Type 0) → OnRefusal {X = X} (Err halt) (λ _. ⊥) → Yields (with_state make s (Err halt)) answers
unread_leaves make (halts.Refused fault) s answers never = absurd never
unread_leaves make halts.ReadFault s answers never = tt
unread_leaves make halts.NoMemory s answers never = tt

pub opens_badly : (files : Files) (names : List (List ℕ)) (missing : Fault) (s : State) (name source : List ℕ) → Some (name, source) ≡ file_of files names
    → (stop : Stop Fault) → Meets {X = List ℕ} (Err stop) (HasText (length s.files) source) → (after : State) → after.files ≡ s.files ++ name ∷ []
    → Yields (with_state together after (Err (halt_of stop))) (Opens files names missing s)
opens_badly files names missing s name source found (stops.Refused fault) bad after more =
    subst (λ (o : Option (List ℕ × List ℕ)). OpensAs missing s o (fails fault after)) found (inr (record { fault = fault; files = after.files }, (bad, more), refl))
opens_badly files names missing s name source found stops.NoMemory bad after more = tt

pub enters_from : (files : Files) (paths : List (List ℕ)) (levels : ℕ) (name : List ℕ) (mark : Mark) (s : State) (answer : Result (List ℕ × State) Failure)
    → levels ≢ 0 → Opens files (names_of paths (utf8_name name)) (missing_file (Some mark) name) s answer → Enters files paths levels name mark s answer
enters_from files paths zero name mark s answer deep opens = absurd (deep refl)
enters_from files paths (suc levels) name mark s answer deep opens = opens

-- Definitions.

pub live_after_more : (defs : List Def) (i : ℕ) (def d : Def) (live before after : Live) (text : Option (List Token)) → i < length defs → def ≡ get_or defs i d
    → before ≡ live_after (take i defs) live → text ≡ def.text → after ≡ put (str_to_ascii_lowercase def.name.bytes) (option_map shapes_of text) before
    → after ≡ live_after (take (i + 1) defs) live
live_after_more defs i def d live before after text within is so_far same set =
    set ∙ ap (λ (t : Option (List Token)). put (str_to_ascii_lowercase def.name.bytes) (option_map shapes_of t) before) same
    ∙ ap (put (str_to_ascii_lowercase def.name.bytes) (option_map shapes_of def.text)) so_far
    ∙ sym (live_after-append (take i defs) def live) ∙ ap (λ (x : Def). live_after (take i defs ++ x ∷ []) live) is
    ∙ ap (λ (ds : List Def). live_after ds live) (sym (take_more defs i d within))
  where
    live_after-append : (ds : List Def) (def : Def) (live : Live)
        → live_after (ds ++ def ∷ []) live ≡ put (str_to_ascii_lowercase def.name.bytes) (option_map shapes_of def.text) (live_after ds live)
    live_after-append [] def live = refl
    live_after-append (first ∷ ds) def live = live_after-append ds def (put (str_to_ascii_lowercase first.name.bytes) (option_map shapes_of first.text) live)

pub starts : (reading : Reading) (live : Live) (defs : List Def) → state_of reading ≡ start [] → live ≡ live_after defs (live_in (rows_of reading.macros))
    → record { live = live; tokens = reading.tokens; files = reading.files } ≡ start defs
starts reading live defs empty set = λ i. record {
  live = (set ∙ ap (λ (s : State). live_after defs s.live) empty) i;
  tokens = (empty i).tokens;
  files = (empty i).files;
}

-- At the end.

is_answer : (gave : Result Program Failure) (answers : Result State Failure → Type 0) → Once answers → OfProgram answers gave
    → (answer : Result State Failure) → answers answer → IsAnswer answer gave
is_answer (Ok program) answers once so answer other = subst (λ (a : Result State Failure). IsAnswer a (Ok program)) (once (Ok so.0) answer so.2 other) so.1
is_answer (Err failure) answers once so answer other = subst (λ (a : Result State Failure). IsAnswer a (Err failure)) (once (Err failure) answer so other) refl

pub answer_from : (result : Result Program (Halt Failure)) (answers : Result State Failure → Type 0) → Once answers → Yields result (OfProgram answers)
    → (answer : Result State Failure) → answers answer → Yields result (IsAnswer answer)
answer_from result answers once yields answer other =
    yields_so (OfProgram answers) (IsAnswer answer) (λ gave so. is_answer gave answers once so answer other) result yields

pub answers_from : (ended : Result (Unit {0}) (Halt Fault)) (s : State) (gave : Result Program (Halt Failure)) (answers : Result State Failure → Type 0)
    → Yields (with_state alone s ended) answers → Finishes ended s gave → Yields gave (OfProgram answers)
answers_from (Ok nothing) s (Ok program) answers left f = (s, f.0, left)
answers_from (Ok nothing) s (Err (halts.Refused failure)) answers left f = absurd f.0
answers_from (Ok nothing) s (Err halts.ReadFault) answers left f = tt
answers_from (Ok nothing) s (Err halts.NoMemory) answers left f = tt
answers_from (Err (halts.Refused fault)) s (Ok program) answers left f = absurd f.0
answers_from (Err (halts.Refused fault)) s (Err (halts.Refused failure)) answers left f =
    subst (λ (one : Failure). answers (Err one)) (sym f.0) left
answers_from (Err (halts.Refused fault)) s (Err halts.ReadFault) answers left f = tt
answers_from (Err (halts.Refused fault)) s (Err halts.NoMemory) answers left f = tt
answers_from (Err halts.ReadFault) s (Ok program) answers left f = absurd f
answers_from (Err halts.ReadFault) s (Err (halts.Refused failure)) answers left f = absurd f
answers_from (Err halts.ReadFault) s (Err halts.ReadFault) answers left f = tt
answers_from (Err halts.ReadFault) s (Err halts.NoMemory) answers left f = tt
answers_from (Err halts.NoMemory) s gave answers left f =
    subst (λ (r : Result Program (Halt Failure)). Yields r (OfProgram answers)) (sym f) tt

pub read_fault_from : (ended : Result (Unit {0}) (Halt Fault)) (s : State) (gave : Result Program (Halt Failure)) (P : Type 0)
    → (IsReadFault ended → P) → Finishes ended s gave → IsReadFault gave → P
read_fault_from (Ok nothing) s gave P on f is = absurd (f.1 is)
read_fault_from (Err (halts.Refused fault)) s gave P on f is = absurd (f.1 is)
read_fault_from (Err halts.ReadFault) s gave P on f is = on tt
read_fault_from (Err halts.NoMemory) s gave P on f is = absurd (subst (λ (r : Result Program (Halt Failure)). IsReadFault r) f is)
