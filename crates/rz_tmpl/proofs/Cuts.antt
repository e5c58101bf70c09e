-- A template's bytes are cut in one way.
use Rattle.std.proofs.Common.{◌≡◌, ◌⊎◌, inl, inr, ℕ, ◌+◌, Bool, true, false, List, [], ◌∷◌, ◌++◌, length, map, take, drop, Option, Some, None, Ok, refl, sym, ap, subst, ◌∙◌, append_assoc, arith, length-append}
use Rattle.std.specs.Prelude.{◌&&◌, nat_lt, if◌then◌else◌, option_and_then}
use Rattle.std.specs.List.{flat_map, AllByRecursion}
use Rattle.std.specs.Option.{is_none}
use Rattle.std.specs.declared.result.Result.{Result}
use Rattle.std.proofs.lemmas.Bool.Decides.{nat_tests}
use Rattle.std.proofs.lemmas.List.{drop_at, take_at}
use Rattle.rz_tmpl.specs.Bodies.{behind}
use Rattle.rz_tmpl.specs.Cut.{broken, code_fault, entry_bytes, entry_fault, fault_behind, most_open, next_fault, standing_at, whole, IsCut, IsLabelled, Labelled, Standing, Stands}
use Rattle.rz_tmpl.specs.Entry.{entry_of}
use Rattle.rz_tmpl.specs.Items.{at, entries_before, is_place_kept, none, waits, Items, Place}
use Rattle.rz_tmpl.specs.declared.entry.Entry.{Entry}
use Rattle.rz_tmpl.specs.declared.fault.TmplFault.{TmplFault}
use Rattle.rz_tmpl.proofs.Faults.{kept_behind}
use Rattle.rz_tmpl.proofs.Places.{behind_all, one_place}
use Rattle.rz_tmpl.proofs.Shown.{fault_is, some_same}

-- The first entry of bytes.

parted : (label code more : List ℕ) (n : ℕ) → length label ≡ n → length code ≡ 4
    → (take 4 (drop n ((label ++ code) ++ more)) ≡ code) × (drop 4 (drop n ((label ++ code) ++ more)) ≡ more)
parted label code more n is four =
    let behind : drop n ((label ++ code) ++ more) ≡ code ++ more = ap (drop n) (append_assoc label code more) ∙ drop_at label (code ++ more) n is in
    (ap (take 4) behind ∙ take_at code more 4 four, ap (drop 4) behind ∙ drop_at code more 4 four)

-- one label and code stand in front of bytes
same_first : (a b : Labelled) (x y : List ℕ) → IsLabelled a → IsLabelled b → entry_bytes a ++ x ≡ entry_bytes b ++ y → (a.code ≡ b.code) × (x ≡ y)
same_first a b x y of_a of_b is =
    let n : length a.label ≡ length b.label = cc in
    let tails : (a.label ++ a.code) ++ x ≡ (b.label ++ b.code) ++ y = cc in
    let one = parted a.label a.code x (length b.label) n of_a.code in
    let other = parted b.label b.code y (length b.label) refl of_b.code in (
      sym one.0 ∙ ap (λ (l : List ℕ). take 4 (drop (length b.label) l)) tails ∙ other.0,
      sym one.1 ∙ ap (λ (l : List ℕ). drop 4 (drop (length b.label) l)) tails ∙ other.1,
    )

-- the fault of bytes with a whole entry in front of them is that of the entry
pub first_fault : (s : Standing) (a : Labelled) (more : List ℕ) (entry : Entry) → IsLabelled a → entry_of a.code ≡ Some entry → next_fault s (entry_bytes a ++ more) ≡ entry_fault s entry
first_fault s a more entry is known =
    let fits : nat_lt (length ((a.label ++ a.code) ++ more)) (length a.label + 4) ≡ false =
    let size = length-append (a.label ++ a.code) more in let front = length-append a.label a.code in let four = is.code in grind (arith, nat_tests) in
    ap (λ (t : Bool). if t then Some 451 else code_fault s (entry_of (take 4 (drop (length a.label) ((a.label ++ a.code) ++ more))))) fits
    ∙ ap (λ (code : List ℕ). code_fault s (entry_of code)) (parted a.label a.code more (length a.label) refl is.code).0
    ∙ ap (code_fault s) known

-- Runs: from a place and bytes to a later place and fewer bytes.

record Run (start : Place) (bytes : List ℕ) (front : List Labelled) (entries : List Entry) (place : Place) (rest : List ℕ) : Type 0 where
  pub whole : AllByRecursion IsLabelled front
  pub cut : bytes ≡ flat_map entry_bytes front ++ rest
  pub known : map (λ entry. entry_of entry.code) front ≡ map Some entries
  pub goes : behind_all start entries ≡ Some place
  pub kept : is_place_kept most_open place ≡ true

-- the bytes have ended, or have a fault
abbrev Stops : Place → List ℕ → Type 0
Stops place rest = (rest ≡ []) ⊎ ((number : ℕ) × (fault_behind place rest ≡ Some number))

stays : (start : Place) (bytes : List ℕ) (entries : List Entry) (place : Place) (rest : List ℕ) → Run start bytes [] entries place rest → (place ≡ start) × (rest ≡ bytes)
stays start bytes [] place rest run = (sym (some_same start place run.goes), sym run.cut)
stays start bytes (entry ∷ entries) place rest run = let known = run.known in absurd cc

then_some : {A B : Type 0} (next : A → Option B) (o : Option A) (y : B) → option_and_then next o ≡ Some y → (x : A) × (o ≡ Some x) × (next x ≡ Some y)
then_some next None y is = absurd cc
then_some next (Some x) y is = (x, refl, is)

front_true : (a b : Bool) → (a && b) ≡ true → a ≡ true
front_true true b is = refl
front_true false b is = absurd cc

back_true : (a b : Bool) → (a && b) ≡ true → b ≡ true
back_true true b is = is
back_true false b is = absurd cc

none_is : {A : Type 0} (o : Option A) → is_none o ≡ true → o ≡ None
none_is None is = refl
none_is (Some x) is = absurd cc

-- what is kept in the end was kept before
kept_all : (entries : List Entry) (start place : Place) → behind_all start entries ≡ Some place → is_place_kept most_open place ≡ true → is_place_kept most_open start ≡ true
kept_all [] start place goes kept = ap (is_place_kept most_open) (some_same start place goes) ∙ kept
kept_all (entry ∷ entries) start place goes kept =
    let next = then_some (λ next. behind_all next entries) (behind start entry) place goes in
    front_true _ _ (sym (kept_behind most_open true start entry next.0 next.1) ∙ kept_all entries next.0 place next.2 kept)

-- the first entry of a run
record Goes (start : Place) (bytes : List ℕ) (first : Labelled) (front : List Labelled) (place : Place) (rest : List ℕ) : Type 0 where
  pub is : IsLabelled first
  pub entry : Entry
  pub known : entry_of first.code ≡ Some entry
  pub next : Place
  pub behind : behind start entry ≡ Some next
  pub more : List ℕ
  pub cut : bytes ≡ entry_bytes first ++ more
  pub sound : fault_behind start bytes ≡ None
  pub others : List Entry
  pub run : Run next more front others place rest

goes : (start : Place) (bytes : List ℕ) (first : Labelled) (front : List Labelled) (entries : List Entry) (place : Place) (rest : List ℕ)
    → Run start bytes (first ∷ front) entries place rest → Goes start bytes first front place rest
goes start bytes first front [] place rest run = let known = run.known in absurd cc
goes start bytes first front (entry ∷ entries) place rest run =
    let known = run.known in
    let heads : entry_of first.code ≡ Some entry = cc in
    let tails : map (λ (entry : Labelled). entry_of entry.code) front ≡ map Some entries = cc in
    let next = then_some (λ next. behind_all next entries) (behind start entry) place run.goes in
    let more = flat_map entry_bytes front ++ rest in
    let cut : bytes ≡ entry_bytes first ++ more = run.cut ∙ append_assoc (entry_bytes first) (flat_map entry_bytes front) rest in
    let both = sym (kept_behind most_open true start entry next.0 next.1) ∙ kept_all entries next.0 place next.2 run.kept in
    record {
      is = run.whole.0;
      entry = entry;
      known = heads;
      next = next.0;
      behind = next.1;
      more = more;
      cut = cut;
      sound = ap (fault_behind start) cut ∙ first_fault (standing_at start) first more entry run.whole.0 heads
          ∙ sym (fault_is most_open true start entry (front_true _ _ both)) ∙ none_is _ (back_true _ _ both);
      others = entries;
      run = record { whole = run.whole.1; cut = refl; known = tails; goes = next.2; kept = run.kept };
    }

-- a run doesn't stop where another goes on
no_stop : (start : Place) (bytes : List ℕ) (entries : List Entry) (place : Place) (rest : List ℕ) (first : Labelled) (front : List Labelled) (other : Place) (left : List ℕ) {P : Type 0}
    → Run start bytes [] entries place rest → Stops place rest → Goes start bytes first front other left → P
no_stop start bytes entries place rest first front other left run stops on = let stayed = stays start bytes entries place rest run in
    elim stops [
      | inl ended ↦ let cut = on.cut in let same = stayed.1 in absurd cc
      | inr fault ↦
          let same : fault_behind start bytes ≡ Some fault.0 = ap (λ (p : Place). fault_behind p bytes) (sym stayed.0) ∙ ap (fault_behind place) (sym stayed.1) ∙ fault.1 in
          let sound = on.sound in absurd cc
    ]

one_end : (front behind : List Labelled) (start : Place) (bytes : List ℕ) (entries others : List Entry) (place other : Place) (rest left : List ℕ)
    → Run start bytes front entries place rest → Run start bytes behind others other left → Stops place rest → Stops other left → (place ≡ other) × (rest ≡ left)
one_end [] [] start bytes entries others place other rest left run again stops ends =
    let one = stays start bytes entries place rest run in let two = stays start bytes others other left again in (one.0 ∙ sym two.0, one.1 ∙ sym two.1)
one_end [] (b ∷ behind) start bytes entries others place other rest left run again stops ends =
    no_stop start bytes entries place rest b behind other left run stops (goes start bytes b behind others other left again)
one_end (a ∷ front) [] start bytes entries others place other rest left run again stops ends =
    no_stop start bytes others other left a front place rest again ends (goes start bytes a front entries place rest run)
one_end (a ∷ front) (b ∷ behind) start bytes entries others place other rest left run again stops ends =
    let one = goes start bytes a front entries place rest run in
    let two = goes start bytes b behind others other left again in
    let same = same_first a b one.more two.more one.is two.is (sym one.cut ∙ two.cut) in
    let entry : one.entry ≡ two.entry = some_same one.entry two.entry (sym one.known ∙ ap entry_of same.0 ∙ two.known) in
    let next : two.next ≡ one.next = some_same two.next one.next (sym two.behind ∙ ap (behind_of start) (sym entry) ∙ one.behind) in
    let moved = subst (λ (l : List ℕ). Run two.next l behind two.others other left) (sym same.1) two.run in
    one_end front behind one.next one.more one.others two.others place other rest left one.run
    (subst (λ (p : Place). Run p one.more behind two.others other left) next moved) stops ends
  where
    behind_of : Place → Entry → Option Place
    behind_of place entry = Rattle.rz_tmpl.specs.Bodies.behind place entry

-- Cuts.

run_of : (bytes : List ℕ) (place : Place) (rest : List ℕ) → (stands : Stands bytes place rest) → Run (at none) bytes stands.front (entries_before place) place rest
run_of bytes place rest stands = record { whole = stands.whole; cut = stands.cut; known = stands.known; goes = one_place place; kept = stands.kept }

one_stand : (bytes : List ℕ) (place other : Place) (rest left : List ℕ) → Stands bytes place rest → Stands bytes other left → Stops place rest → Stops other left → (place ≡ other) × (rest ≡ left)
one_stand bytes place other rest left stands again stops ends =
    one_end stands.front again.front (at none) bytes (entries_before place) (entries_before other) place other rest left (run_of bytes place rest stands) (run_of bytes other left again) stops ends

whole_sound : (items : Items) → waits false items ≡ false → fault_behind (at items) [] ≡ None
whole_sound items ends = ap (λ (w : Bool). if w then Some 454 else None) ends

mixed : (bytes : List ℕ) (items : Items) (place : Place) (rest : List ℕ) (number : ℕ) {P : Type 0} → Stands bytes (at items) [] → waits false items ≡ false → Stands bytes place rest
    → fault_behind place rest ≡ Some number → P
mixed bytes items place rest number stands ends again fault =
    let same = one_stand bytes (at items) place [] rest stands again (inl refl) (inr (number, fault)) in
    let here : fault_behind (at items) [] ≡ Some number = ap (λ (p : Place). fault_behind p []) same.0 ∙ ap (fault_behind place) same.1 ∙ fault in
    let sound = whole_sound items ends in absurd cc

pub one_cut : (bytes : List ℕ) (one other : Result Items TmplFault) → IsCut bytes one → IsCut bytes other → one ≡ other
one_cut bytes one other (whole items stands ends) (whole more again stops) =
    let same = one_stand bytes (at items) (at more) [] [] stands again (inl refl) (inl refl) in let places = same.0 in let equal : items ≡ more = cc in ap Ok equal
one_cut bytes one other (whole items stands ends) (broken place rest number again fault) = mixed bytes items place rest number stands ends again fault
one_cut bytes one other (broken place rest number stands fault) (whole items again ends) = mixed bytes items place rest number again ends stands fault
one_cut bytes one other (broken place rest number stands fault) (broken next left more again cause) =
    let same = one_stand bytes place next rest left stands again (inr (number, fault)) (inr (more, cause)) in
    let numbers : number ≡ more = some_same number more (sym fault ∙ ap (λ (p : Place). fault_behind p rest) same.0 ∙ ap (fault_behind next) same.1 ∙ cause) in
    let left = same.1 in cc
