-- The file of a name, and what a call makes of it that reads the file first.
use Rattle.std.proofs.Common.{◌≡◌, ℕ, List, Option, Some, None, Ok, Err, sym, subst}
use Rattle.std.specs.Prelude.{IfSome, IsErrAnd}
use Rattle.std.specs.FinMap as finite
use Rattle.std.specs.declared.result.Result.{Result}
use Rattle.rz_core.specs.Message.{IsNameable}
use Rattle.rz_core.specs.Stop.{IsReadFault, OnFault, OnRefusal, Yields}
use Rattle.rz_core.specs.declared.fault.Fault.{Fault}
use Rattle.rz_core.specs.declared.stop.Halt.{Halt}
use Rattle.rz_core.specs.declared.stop.Halt.TheVariants as halts
use Rattle.rz_core.specs.declared.stop.Stop.{Stop}
use Rattle.rz_core.specs.declared.stop.Stop.TheVariants as stops
use Rattle.rz_folder.proofs.Reading.{reads_as, reads_on}
use Rattle.rz_folder.specs.Finds.{Finds}
use Rattle.rz_folder.specs.Folder.{Files}
use Rattle.rz_folder.specs.declared.folder.Folder.{Ghosts}
use Rattle.rz_folder.specs.Names.{missing_file, HasBytes, HasEntry, IsUnplaced}

-- What is at the name.

there : (name bytes : List ℕ) (entry : Option (List ℕ)) → HasEntry name entry (Ok bytes) → entry ≡ Some bytes
there name bytes None is = cc is
there name bytes (Some held) is = cc is

same_fault : (fault other : Fault) → ◌≡◌ {A = Result (List ℕ) Fault} (Err fault) (Err other) → fault ≡ other
same_fault fault other is = cc is

module _ (name : List ℕ) {Y : Type 0} (Next : Option (List ℕ) → Result Y Fault → Type 0) where
  pub next_of : (bytes : List ℕ) (entry : Option (List ℕ)) → HasEntry name entry (Ok bytes) → (result : Result Y (Halt Fault)) → Yields result (Next (Some bytes)) → Yields result (Next entry)
  next_of bytes entry is result so = subst (λ (e : Option (List ℕ)). Yields result (Next e)) (sym (there name bytes entry is)) so

  pub none_of : (fault : Fault) (entry : Option (List ℕ)) → HasEntry name entry (Err fault) → Next None (Err (missing_file None name)) → Next entry (Err fault)
  none_of fault None is missing = subst (λ (f : Fault). Next None (Err f)) (sym (same_fault fault (missing_file None name) is)) missing
  none_of fault (Some bytes) is missing = absurd (cc is)

-- What a call makes.

failed : (Y : Type 0) (halt : Halt Fault) → IsReadFault {X = Y} (Err halt) → IsReadFault {X = List ℕ} (Err halt)
failed Y (halts.Refused fault) is = absurd is
failed Y halts.ReadFault is = tt
failed Y halts.NoMemory is = absurd is

worse : (Y : Type 0) {Bad Worse : Fault → Type 0} (halt : Halt Fault) → ((fault : Fault) → Bad fault → Worse fault) → OnRefusal {X = List ℕ} (Err halt) Bad → OnRefusal {X = Y} (Err halt) Worse
worse Y (halts.Refused fault) so bad = so fault bad
worse Y halts.ReadFault so bad = tt
worse Y halts.NoMemory so bad = tt

module _ {F : Type 0} (g : Ghosts F) (name : List ℕ) {Y : Type 0} (Next : Files → Option (List ℕ) → Result Y Fault → Type 0) where
  -- the file was read, and what followed gave this
  pub present_then : {GoodX : List ℕ → Type 0} {BadX Bad : Fault → Type 0} {Good : Y → Type 0} {old mid new : F} {bytes : List ℕ} {result : Result Y (Halt Fault)}
      → Finds g old mid (Ok bytes) (HasBytes name) GoodX BadX → Finds g mid new result (λ files. Next files (Some bytes)) Good Bad
      → Finds g old new result (λ files. Next files (finite.get files name)) Good Bad
  present_then {old = old} {mid = mid} {new = new} {bytes = bytes} {result = result} first next = record {
    answered = by (g.files old) first.answered (subst (λ (o : Option Files). IfSome o (λ files. Yields result (Next files (Some bytes)))) first.reads.unchanged next.answered);
    good = next.good;
    bad = next.bad;
    reads = reads_on g old mid new _ _ _ first.reads next.reads (λ failed. failed);
  }
    where
      by : (before : Option Files) → IfSome before (λ files. HasBytes name files (Ok bytes)) → IfSome before (λ files. Yields result (Next files (Some bytes)))
          → IfSome before (λ files. Yields result (Next files (finite.get files name)))
      by None is so = tt
      by (Some files) is so = next_of name (Next files) bytes (finite.get files name) is result so

  -- it was not read, and the call stopped
  pub absent_stop : {GoodX : List ℕ → Type 0} {BadX Bad : Fault → Type 0} {Good : Y → Type 0} {old new : F} {halt : Halt Fault} (result : Result Y (Halt Fault)) → IsErrAnd result (λ e. e ≡ halt)
      → ((files : Files) → Next files None (Err (missing_file None name))) → ((fault : Fault) → BadX fault → Bad fault) → Finds g old new (Err halt) (HasBytes name) GoodX BadX
      → Finds g old new result (λ files. Next files (finite.get files name)) Good Bad
  absent_stop (Ok value) is missing so first = absurd is
  absent_stop {Bad = Bad} {Good = Good} {old = old} {new = new} {halt = halt} (Err stop) is missing so first =
      subst (λ (e : Halt Fault). Finds g old new (Err e) (λ files. Next files (finite.get files name)) Good Bad) (sym is) (record {
        answered = by (g.files old) halt first.answered;
        good = tt;
        bad = worse Y halt so first.bad;
        reads = reads_as g old new (failed Y halt) first.reads;
      })
    where
      by : (before : Option Files) (halt : Halt Fault) → IfSome before (λ files. Yields {X = List ℕ} (Err halt) (HasBytes name files))
          → IfSome before (λ files. Yields {X = Y} (Err halt) (Next files (finite.get files name)))
      by None halt read = tt
      by (Some files) (halts.Refused fault) read = none_of name (Next files) fault (finite.get files name) read (missing files)
      by (Some files) halts.ReadFault read = tt
      by (Some files) halts.NoMemory read = tt

-- a call that names no mark
pub unplaced : (X Y : Type 0) (stop : Stop Fault) → ((files : ℕ) → OnFault {X = X} (Err stop) (IsNameable files)) → OnFault {X = Y} (Err stop) IsUnplaced
unplaced X Y (stops.Refused fault) all = all
unplaced X Y stops.NoMemory all = tt

pub placed_at : {X : Type 0} (files : ℕ) (result : Result X (Halt Fault)) → OnRefusal result IsUnplaced → OnRefusal result (IsNameable files)
placed_at files (Ok value) bad = tt
placed_at files (Err (halts.Refused fault)) bad = bad files
placed_at files (Err halts.ReadFault) bad = tt
placed_at files (Err halts.NoMemory) bad = tt

pub finds_at : {F : Type 0} (g : Ghosts F) {X : Type 0} {A : Files → Result X Fault → Type 0} {Good : X → Type 0} {old new : F} {result : Result X (Halt Fault)} (files : ℕ)
    → Finds g old new result A Good IsUnplaced → Finds g old new result A Good (IsNameable files)
finds_at g {result = result} files finds = record { answered = finds.answered; good = finds.good; bad = placed_at files result finds.bad; reads = finds.reads }

pub halt_placed : (X Y : Type 0) (files : ℕ) (halt : Halt Fault) → OnRefusal {X = X} (Err halt) IsUnplaced → OnRefusal {X = Y} (Err halt) (IsNameable files)
halt_placed X Y files (halts.Refused fault) bad = bad files
halt_placed X Y files halts.ReadFault bad = tt
halt_placed X Y files halts.NoMemory bad = tt
