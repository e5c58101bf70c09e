-- An answer that is carried out.
use Rattle.std.proofs.Common.{◌≡◌, ◌<◌, ◌+◌, inl, inr, ℕ, List, [], ◌∷◌, ◌++◌, map, take, drop, length, get_or, ◌^◌, Some, None, Ok, Err, refl, sym, ap, subst, ◌∙◌}
use Rattle.std.specs.Prelude.{IfSome}
use Rattle.std.specs.declared.option.Option.{Option}
use Rattle.std.specs.declared.result.Result.{Result}
use Rattle.rz_core.specs.declared.stop.NoMemory.{NoMemory as NoMemoryAlone}
use Rattle.std.specs.FinMap as finite
use Rattle.std.proofs.lemmas.List.{drop_more, map-append, take_more, take-append-drop}
use Rattle.rz_folder.specs.Counts.{next, Rose}
use Rattle.rz_folder.specs.Folder.{Files, Writes}
use Rattle.rz_folder.specs.Sink.{faults_with_text, GotFront, IsOut, Told}
use Rattle.rz_folder.specs.declared.folder.Written.TheVariants as ends
use Rattle.rz_folder.specs.declared.sink.Put.{Put}
use Rattle.rz_folder.specs.declared.sink.Put.TheVariants as puts
use Rattle.rz_tools_answer.specs.Answer.{count_after, files_after, Answer, Write}
use Rattle.rz_tools_answer.specs.Message.{write_fault_line}
use Rattle.rz_tools_answer.specs.Plan.{FailsAt, WritesEach}
use Rattle.rz_tools_answer.specs.Carried.{at_file, at_text, end_of, CarriesOut, IsTriedOnce, IsUntouched}
use Rattle.rz_tools_answer.specs.World.{Says, World}
use Rattle.rz_tools_answer.specs.WellFormed.{AreWritable, FitsOutcome}
use Rattle.rz_tools_answer.specs.declared.outcome.Outcome.{Outcome}
use Rattle.rz_tools_answer.specs.declared.outcome.Outcome.TheVariants.{Done, Usage, Refused, ReadFault, WriteFault, NoMemory}

-- How an answer is carried out.

module _ (answer : Answer) (before after : World) where
  untouched : answer.writes ≡ [] → answer.out ≡ [] → (answer.writes ≡ [] → after.files ≡ before.files) → after.writes ≡ count_after answer.writes before.writes
      → (answer.out ≡ [] → after.out ≡ before.out) → IsUntouched before after
  untouched no_writes no_text files counted out =
      record { files = files no_writes; counted = counted ∙ ap (λ (ws : List Write). count_after ws before.writes) no_writes; out = out no_text }

  pub all_done : (outcome : Outcome) → answer.outcome ≡ outcome → FitsOutcome outcome answer
      → WritesEach answer.writes before.files after.files before.writes after.writes ends.Done → (answer.writes ≡ [] → after.files ≡ before.files)
      → Told (IsOut answer.out) before.out after.out → (answer.out ≡ [] → after.out ≡ before.out)
      → Says answer.err before.err after.err before.err_faults after.err_faults → CarriesOut answer before after outcome
  all_done Done is fits told files text out says = record {
    ends = (is, record { files = told.0; counted = told.1; out = text });
    says = says;
  }
  all_done (Usage fault) is fits told files text out says = record {
    ends = (is, untouched (ap (λ (a : Answer). a.writes) fits) (ap (λ (a : Answer). a.out) fits) files told.1 out);
    says = says;
  }
  all_done (Refused fault) is fits told files text out says = record {
    ends = (is, untouched (ap (λ (a : Answer). a.writes) fits.1) (ap (λ (a : Answer). a.out) fits.1) files told.1 out);
    says = says;
  }
  all_done ReadFault is fits told files text out says = absurd fits
  all_done WriteFault is fits told files text out says = absurd fits
  all_done NoMemory is fits told files text out says = absurd fits

  -- what an answer writes is that of Done
  writes_done : (outcome : Outcome) → answer.outcome ≡ outcome → FitsOutcome outcome answer → (answer.writes ≡ [] → ⊥) → answer.outcome ≡ Done
  writes_done Done is fits some = is
  writes_done (Usage fault) is fits some = absurd (some (ap (λ (a : Answer). a.writes) fits))
  writes_done (Refused fault) is fits some = absurd (some (ap (λ (a : Answer). a.writes) fits.1))
  writes_done ReadFault is fits some = absurd fits
  writes_done WriteFault is fits some = absurd fits
  writes_done NoMemory is fits some = absurd fits

  shows_done : (outcome : Outcome) → answer.outcome ≡ outcome → FitsOutcome outcome answer → (answer.out ≡ [] → ⊥) → answer.outcome ≡ Done
  shows_done Done is fits some = is
  shows_done (Usage fault) is fits some = absurd (some (ap (λ (a : Answer). a.out) fits))
  shows_done (Refused fault) is fits some = absurd (some (ap (λ (a : Answer). a.out) fits.1))
  shows_done ReadFault is fits some = absurd fits
  shows_done WriteFault is fits some = absurd fits
  shows_done NoMemory is fits some = absurd fits

  says_so : (text line : List ℕ) → text ≡ answer.err → Says (text ++ line) before.err after.err before.err_faults after.err_faults
      → Says (answer.err ++ line) before.err after.err before.err_faults after.err_faults
  says_so text line is says = subst (λ (x : List ℕ). Says (x ++ line) before.err after.err before.err_faults after.err_faults) is says

  pub write_failed : FitsOutcome answer.outcome answer → WritesEach answer.writes before.files after.files before.writes after.writes ends.Failed
      → (answer.writes ≡ [] → (ends.Failed ≡ ends.Done) × (after.files ≡ before.files)) → Rose before.write_faults after.write_faults → after.out ≡ before.out
      → (text : List ℕ) → text ≡ answer.err → Says (text ++ write_fault_line) before.err after.err before.err_faults after.err_faults
      → CarriesOut answer before after WriteFault
  write_failed fits told none rose out text is says = record {
    ends = (
      writes_done answer.outcome refl fits (λ no_writes. let e = (none no_writes).0 in cc),
      inl rose,
      at_file told.0 told.1 told.2 told.3 (record { files = told.4; counted = told.5; out = out }),
    );
    says = says_so text write_fault_line is says;
  }

  pub put_failed : FitsOutcome answer.outcome answer → WritesEach answer.writes before.files after.files before.writes after.writes ends.Done
      → (piece : List ℕ) → piece ≡ answer.out → Told (GotFront piece) before.out after.out → (piece ≡ [] → (puts.Failed ≡ puts.Done) × (after.out ≡ before.out))
      → Rose before.out_faults after.out_faults
      → (text : List ℕ) → text ≡ answer.err → Says (text ++ write_fault_line) before.err after.err before.err_faults after.err_faults
      → CarriesOut answer before after WriteFault
  put_failed fits told piece same put none rose text is says = record {
    ends = (
      shows_done answer.outcome refl fits (λ no_text. let e = (none (same ∙ no_text)).0 in cc),
      inr rose,
      at_text told.0 told.1 (subst (λ (x : List ℕ). Told (GotFront x) before.out after.out) same put),
    );
    says = says_so text write_fault_line is says;
  }

  pub carried_done : FitsOutcome answer.outcome answer → WritesEach answer.writes before.files after.files before.writes after.writes ends.Done
      → (answer.writes ≡ [] → (ends.Done ≡ ends.Done) × (after.files ≡ before.files))
      → (piece : List ℕ) → piece ≡ answer.out → Told (IsOut piece) before.out after.out → (piece ≡ [] → (puts.Done ≡ puts.Done) × (after.out ≡ before.out))
      → (text : List ℕ) → text ≡ answer.err → Says text before.err after.err before.err_faults after.err_faults
      → CarriesOut answer before after answer.outcome
  carried_done fits told files piece same put out text is says =
      all_done answer.outcome refl fits told (λ none. (files none).1) (subst (λ (x : List ℕ). Told (IsOut x) before.out after.out) same put)
      (λ none. (out (same ∙ none)).1) (subst (λ (x : List ℕ). Says x before.err after.err before.err_faults after.err_faults) is says)

-- How often the output was tried.

pub not_tried : (before after : ℕ) (result : Outcome) → after ≡ before → IsTriedOnce before after result
not_tried before after WriteFault same = inl same
not_tried before after Done same = same
not_tried before after (Usage fault) same = same
not_tried before after (Refused fault) same = same
not_tried before after ReadFault same = same
not_tried before after NoMemory same = same

pub tried_once : (before after : ℕ) (result : Outcome) → result ≡ WriteFault → after ≡ next before → IsTriedOnce before after result
tried_once before after result is more = subst (IsTriedOnce before after) (sym is) (inr more)

-- a text was put piece by piece
pub text_tried : (before after : ℕ) (put : Result Put NoMemoryAlone) (result : Outcome) → result ≡ end_of put → after ≡ faults_with_text before put
    → IsTriedOnce before after result
text_tried before after (Ok puts.Done) result is counted = not_tried before after result counted
text_tried before after (Ok puts.Failed) result is counted = tried_once before after result is counted
text_tried before after (Err refused) result is counted = not_tried before after result counted

-- Files that are written one after the other.

pub one_more : (front : List Write) (write : Write) (files : Files) → files_after (front ++ write ∷ []) files ≡ finite.insert (files_after front files) write.name write.bytes
one_more [] write files = refl
one_more (first ∷ front) write files = one_more front write (finite.insert files first.name first.bytes)

pub one_write_more : (front : List Write) (write : Write) (count : ℕ) → count_after (front ++ write ∷ []) count ≡ next (count_after front count)
one_write_more [] write count = refl
one_write_more (first ∷ front) write count = one_write_more front write (next count)

-- the count after the writes so far and one more
pub counted_more : (front : List Write) (write : Write) (before now after : ℕ) → now ≡ count_after front before → after ≡ next now
    → after ≡ count_after (front ++ write ∷ []) before
counted_more front write before now after so is = is ∙ ap next so ∙ sym (one_write_more front write before)

-- so far so many are written
abbrev pub AreSoFar : List Write → Option Files → Option Files → Type 0
AreSoFar front before now = IfSome before (λ files. now ≡ Some (files_after front files))

pub next_done : (front : List Write) (write : Write) (name piece : List ℕ) (before now after : Option Files) → name ≡ write.name → piece ≡ write.bytes
    → AreSoFar front before now → Writes name piece now after ends.Done → AreSoFar (front ++ write ∷ []) before after
next_done front write name piece None now after named is so told = tt
next_done front write name piece (Some files) now after named is so told =
    subst (λ (x : Option Files). Writes name piece x after ends.Done) so told
    ∙ (λ i. Some (finite.insert (files_after front files) (named i) (is i))) ∙ ap Some (sym (one_more front write files))

pub next_failed : (front : List Write) (write : Write) (name piece : List ℕ) (before now after : Option Files) → name ≡ write.name → piece ≡ write.bytes
    → AreSoFar front before now → Writes name piece now after ends.Failed → FailsAt front write before after
next_failed front write name piece None now after named is so told = tt
next_failed front write name piece (Some files) now after named is so told =
    subst (λ (n : List ℕ). FailsAt front (record { name = n; bytes = write.bytes }) (Some files) after) named
    (subst (λ (x : Option Files). Writes name piece x after ends.Failed) so told)

pub none_so_far : (before : Option Files) → AreSoFar [] before before
none_so_far None = tt
none_so_far (Some files) = refl

-- The write at a position of a list.

all_after : (front rest : List Write) → AreWritable (front ++ rest) → AreWritable rest
all_after [] rest all = all
all_after (write ∷ front) rest all = all_after front rest all.1

module _ {X : Type 0} (f : X → Write) (xs : List X) (i : ℕ) (x : X) (within : i < length xs) (is : x ≡ get_or xs i x) where
  pub front_more : map f (take (i + 1) xs) ≡ map f (take i xs) ++ f x ∷ []
  front_more =
      ap (map f) (take_more xs i x within) ∙ map-append f (take i xs) (get_or xs i x ∷ [])
      ∙ ap (λ (y : X). map f (take i xs) ++ f y ∷ []) (sym is)

  pub cut_there : map f xs ≡ map f (take i xs) ++ f x ∷ map f (drop (i + 1) xs)
  cut_there =
      ap (map f) (sym (take-append-drop i xs)) ∙ map-append f (take i xs) (drop i xs)
      ∙ ap (λ (l : List X). map f (take i xs) ++ map f l) (drop_more xs i x within)
      ∙ ap (λ (y : X). map f (take i xs) ++ f y ∷ map f (drop (i + 1) xs)) (sym is)

  pub writable_there : AreWritable (map f xs) → length (f x).bytes < 2 ^ 32
  writable_there all = (all_after (map f (take i xs)) (f x ∷ map f (drop (i + 1) xs)) (subst AreWritable cut_there all)).0
