-- One call after another, of calls that only read files.
use Rattle.std.proofs.Common.{◌≡◌, Option, Some, None, Ok, Err, inl, inr, sym, ap, subst, ◌∙◌}
use Rattle.std.specs.Prelude.{IfOk, IfSome, IsErrAnd}
use Rattle.std.specs.declared.result.Result.{Result}
use Rattle.rz_core.proofs.Stops.{then_halts, then_yields, yields_so}
use Rattle.rz_core.specs.Answers.{Then}
use Rattle.rz_core.specs.Stop.{◌>>=◌, halt_of, seen, Gives, IsReadFault, Meets, OnFault, OnRefusal, Yields}
use Rattle.rz_core.specs.declared.stop.Halt.{Halt}
use Rattle.rz_core.specs.declared.stop.Halt.TheVariants as halts
use Rattle.rz_core.specs.declared.stop.Stop.{Stop}
use Rattle.rz_core.specs.declared.stop.Stop.TheVariants.{Refused, NoMemory}
use Rattle.rz_folder.proofs.Reading.{reads_as, reads_nothing, reads_on}
use Rattle.rz_folder.specs.Finds.{Finds}
use Rattle.rz_folder.specs.Folder.{Files}
use Rattle.rz_folder.specs.OnlyReads.{OnlyReads}
use Rattle.rz_folder.specs.declared.folder.Folder.{Ghosts}

always : {P : Type 0} (before : Option Files) → P → IfSome before (λ files. P)
always None holds = tt
always (Some files) holds = holds

-- what a stop says of one value it says of another
pub refuses_so : {E : Type 0} (X Y : Type 0) (halt : Halt E) (Bad : E → Type 0) → OnRefusal {X = X} (Err halt) Bad → OnRefusal {X = Y} (Err halt) Bad
refuses_so X Y (halts.Refused fault) Bad is = is
refuses_so X Y halts.ReadFault Bad is = tt
refuses_so X Y halts.NoMemory Bad is = tt

pub failed_so : {E : Type 0} (X Y : Type 0) (halt : Halt E) → IsReadFault {X = X} (Err halt) → IsReadFault {X = Y} (Err halt)
failed_so X Y (halts.Refused fault) is = absurd is
failed_so X Y halts.ReadFault is = tt
failed_so X Y halts.NoMemory is = absurd is

ok_so : {X E : Type 0} {Good Better : X → Type 0} (result : Result X E) → ((x : X) → Good x → Better x) → IfOk result Good → IfOk result Better
ok_so (Ok value) so good = so value good
ok_so (Err stop) so good = tt

refusal_so : {X E : Type 0} {Bad Worse : E → Type 0} (result : Result X (Halt E)) → ((e : E) → Bad e → Worse e) → OnRefusal result Bad → OnRefusal result Worse
refusal_so (Ok value) so bad = tt
refusal_so (Err (halts.Refused fault)) so bad = so fault bad
refusal_so (Err halts.ReadFault) so bad = tt
refusal_so (Err halts.NoMemory) so bad = tt

-- the end of a `?`, seen as another value
pub seen_end : {A X E : Type 0} (view : A → X) (result : Result A E) (P : E → Type 0) → IsErrAnd result P → IsErrAnd (seen view result) P
seen_end view (Ok value) P is = absurd is
seen_end view (Err stop) P is = is

module _ {F : Type 0} (g : Ghosts F) where
  -- what a call gives is also answered so, and more holds of it
  pub finds_so : {X E : Type 0} {A B : Files → Result X E → Type 0} {Good Better : X → Type 0} {Bad Worse : E → Type 0} {old new : F} (result : Result X (Halt E))
      → Finds g old new result A Good Bad → ((files : Files) (answer : Result X E) → A files answer → B files answer) → ((x : X) → Good x → Better x) → ((e : E) → Bad e → Worse e)
      → Finds g old new result B Better Worse
  finds_so {X = X} {E = E} {A = A} {B = B} {old = old} result finds answers better worse = record {
    answered = by (g.files old) finds.answered;
    good = ok_so result better finds.good;
    bad = refusal_so result worse finds.bad;
    reads = finds.reads;
  }
    where
      by : (before : Option Files) → IfSome before (λ files. Yields result (A files)) → IfSome before (λ files. Yields result (B files))
      by None is = tt
      by (Some files) is = yields_so (A files) (B files) (answers files) result is

  pub finds_as : {X E : Type 0} {A B : Files → Result X E → Type 0} {Good : X → Type 0} {Bad : E → Type 0} {old new : F} (result : Result X (Halt E))
      → Finds g old new result A Good Bad → ((files : Files) (answer : Result X E) → A files answer → B files answer) → Finds g old new result B Good Bad
  finds_as result finds answers = finds_so result finds answers (λ x good. good) (λ e bad. bad)

  -- memory was refused
  pub finds_none : {X E : Type 0} {answers : Files → Result X E → Type 0} {Good : X → Type 0} {Bad : E → Type 0} {s : F} (result : Result X (Halt E))
      → IsErrAnd result (λ e. e ≡ halts.NoMemory) → Finds g s s result answers Good Bad
  finds_none (Ok value) is = absurd is
  finds_none {X = X} {E = E} {answers = answers} {Good = Good} {Bad = Bad} {s = s} (Err stop) is =
      subst (λ (e : Halt E). Finds g s s (Err e) answers Good Bad) (sym is)
      (record { answered = always {P = Unit {0}} (g.files s) tt; good = tt; bad = tt; reads = reads_nothing g s })

  -- after calls that read
  pub finds_none_after : {X E : Type 0} {answers : Files → Result X E → Type 0} {Good : X → Type 0} {Bad : E → Type 0} {old new : F} {P : Type 0} (result : Result X (Halt E))
      → OnlyReads g old new P → IsErrAnd result (λ e. e ≡ halts.NoMemory) → Finds g old new result answers Good Bad
  finds_none_after (Ok value) reads is = absurd is
  finds_none_after {X = X} {E = E} {answers = answers} {Good = Good} {Bad = Bad} {old = old} {new = new} (Err stop) reads is =
      subst (λ (e : Halt E). Finds g old new (Err e) answers Good Bad) (sym is)
      (record { answered = always {P = Unit {0}} (g.files old) tt; good = tt; bad = tt; reads = reads_as g old new (λ never. absurd never) reads })

  -- a call that reads no file
  pub finds_pure : {X E : Type 0} (answers : Result X E → Type 0) {Good : X → Type 0} {Bad : E → Type 0} {s : F} (result : Result X (Halt E)) → Yields result answers → IfOk result Good
      → OnRefusal result Bad → (IsReadFault result → ⊥) → Finds g s s result (λ files. answers) Good Bad
  finds_pure answers {s = s} result is good bad unread = record { answered = always (g.files s) is; good = good; bad = bad; reads = reads_as g s s unread (reads_nothing g s) }

  -- the end of the `?` of the last call
  pub finds_end : {X E : Type 0} {answers : Files → Result X E → Type 0} {Good : X → Type 0} {Bad : E → Type 0} {old new : F} {halt : Halt E} (result : Result X (Halt E))
      → IsErrAnd result (λ e. e ≡ halt) → Finds g old new (Err halt) answers Good Bad → Finds g old new result answers Good Bad
  finds_end (Ok value) is finds = absurd is
  finds_end {answers = answers} {Good = Good} {Bad = Bad} {old = old} {new = new} (Err stop) is finds = subst (λ (e : Halt _). Finds g old new (Err e) answers Good Bad) (sym is) finds

  module _ {X Y E : Type 0} (First : Files → Result X E → Type 0) (Next : Files → X → Result Y E → Type 0) {GoodX : X → Type 0} {Good : Y → Type 0} {Bad : E → Type 0} where
    -- the first call gave a value, and the others after it gave this
    pub finds_then : {old mid new : F} {x : X} {result : Result Y (Halt E)} → Finds g old mid (Ok x) First GoodX Bad → Finds g mid new result (λ files. Next files x) Good Bad
        → Finds g old new result (λ files. Then (First files) (Next files)) Good Bad
    finds_then {old} {mid} {new} {x} {result} first next = record {
      answered = by (g.files old) first.answered (subst (λ (o : Option Files). IfSome o (λ files. Yields result (Next files x))) first.reads.unchanged next.answered);
      good = next.good;
      bad = next.bad;
      reads = reads_on g old mid new _ _ _ first.reads next.reads (λ failed. failed);
    }
      where
        by : (before : Option Files) → IfSome before (λ files. First files (Ok x)) → IfSome before (λ files. Yields result (Next files x))
            → IfSome before (λ files. Yields result (Then (First files) (Next files)))
        by None is so = tt
        by (Some files) is so = then_yields (First files) (Next files) x is result so

    -- the first call stopped, and so did the whole
    pub finds_stop : {old new : F} {halt : Halt E} (result : Result Y (Halt E)) → IsErrAnd result (λ e. e ≡ halt) → Finds g old new (Err halt) First GoodX Bad
        → Finds g old new result (λ files. Then (First files) (Next files)) Good Bad
    finds_stop (Ok value) is first = absurd is
    finds_stop {old} {new} {halt} (Err stop) is first = subst (λ (e : Halt E). Finds g old new (Err e) (λ files. Then (First files) (Next files)) Good Bad) (sym is) stopped
      where
        by : (before : Option Files) → IfSome before (λ files. Yields {X = X} (Err halt) (First files)) → IfSome before (λ files. Yields {X = Y} (Err halt) (Then (First files) (Next files)))
        by None yields = tt
        by (Some files) yields = then_halts (First files) (Next files) halt yields

        stopped : Finds g old new (Err halt) (λ files. Then (First files) (Next files)) Good Bad
        stopped = record {
          answered = by (g.files old) first.answered;
          good = tt;
          bad = refuses_so X Y halt Bad first.bad;
          reads = reads_as g old new (failed_so Y X halt) first.reads;
        }

  module _ {X E : Type 0} (answers : Result X E → Type 0) {Bad : E → Type 0} where
    -- a call that reads no file gave a value
    pub finds_value : (Good : X → Type 0) {s : F} (value : X) → answers (Ok value) → Good value → Finds g s s (Ok value) (λ files. answers) Good Bad
    finds_value Good {s} value is good = record { answered = always (g.files s) is; good = good; bad = tt; reads = reads_nothing g s }

    -- it stopped
    pub finds_fault : (Good : X → Type 0) {s : F} (stop : Stop E) → Meets {X = X} (Err stop) answers → OnFault {X = X} (Err stop) Bad → Finds g s s (Err (halt_of stop)) (λ files. answers) Good Bad
    finds_fault Good {s} (Refused fault) is bad = record { answered = always (g.files s) is; good = tt; bad = bad; reads = reads_nothing g s }
    finds_fault Good {s} NoMemory is bad = record { answered = always (g.files s) tt; good = tt; bad = tt; reads = reads_nothing g s }

-- What is answered exactly.

-- one answer after another
pub binds : {X Y E : Type 0} (first : Result X E) (next : X → Result Y E) (answer : Result Y E) → Then (λ given. first ≡ given) (λ x given. next x ≡ given) answer → first >>= next ≡ answer
binds first next answer (inl (x, is, so)) = ap (λ (r : Result _ _). r >>= next) is ∙ so
binds first next answer (inr (fault, is, same)) = ap (λ (r : Result _ _). r >>= next) is ∙ sym same

gives_is : {X E : Type 0} (answer : Result X E) (stop : Stop E) → Gives {X = X} answer (Err stop) → Meets {X = X} (Err stop) (λ given. answer ≡ given)
gives_is answer (Refused fault) is = is
gives_is answer NoMemory is = tt

module _ {F : Type 0} (g : Ghosts F) {X E : Type 0} (answer : Result X E) {Good : X → Type 0} {Bad : E → Type 0} {s : F} where
  -- a call that reads no file gave this value
  pub finds_this : (value : X) → answer ≡ Ok value → Good value → Finds g s s (Ok value) (λ files given. answer ≡ given) Good Bad
  finds_this value is good = finds_value g (λ given. answer ≡ given) Good value is good

  -- or stopped
  pub stops_so : (stop : Stop E) → Gives {X = X} answer (Err stop) → OnFault {X = X} (Err stop) Bad → Finds g s s (Err (halt_of stop)) (λ files given. answer ≡ given) Good Bad
  stops_so stop is bad = finds_fault g (λ given. answer ≡ given) Good stop (gives_is answer stop is) bad
