-- What bytes are as a template.
use Rattle.std.proofs.Common.{◌≡◌, ℕ, suc, ◌+◌, ◌-◌, ◌<◌, ◌≤◌, ◌^◌, true, false, List, [], ◌∷◌, length, map, Some, Ok, Err, refl, sym, ap, subst, ◌∙◌, arith, length-append}
use Rattle.std.specs.List.{flat_map}
use Rattle.std.specs.declared.result.Result.{Result}
use Rattle.rz_tmpl.specs.Cut.{broken, entry_bytes, whole, IsCut, Labelled}
use Rattle.rz_tmpl.specs.Entry.{entry_of}
use Rattle.rz_tmpl.specs.Items.{count, entries_of, is_kept, list, none, one, waits, Items}
use Rattle.rz_tmpl.specs.declared.entry.ListForm.TheVariants.{Counted, Uncounted}
use Rattle.rz_tmpl.specs.declared.entry.Entry.{Entry}
use Rattle.rz_tmpl.specs.declared.entry.Entry.TheVariants.{End}
use Rattle.rz_tmpl.specs.declared.fault.TmplFault.{TmplFault}
use Rattle.rz_tmpl.specs.Body.{lists_of, tmpl_body}
use Rattle.rz_tmpl.specs.Template.{body_in, HasBody}
use Rattle.rz_types_fields.specs.Field.{PlainBody}

pub once : ((bytes : List ℕ) (a b : Result Items TmplFault) → IsCut bytes a → IsCut bytes b → a ≡ b)
    → (bytes : List ℕ) (a b : Result PlainBody TmplFault) → HasBody bytes a → HasBody bytes b → a ≡ b
once cuts bytes a b (x, is, so) (y, also, too) = sym so ∙ ap body_in (cuts bytes x y is also) ∙ too

pub some : ((bytes : List ℕ) → (cut : Result Items TmplFault) × IsCut bytes cut) → (bytes : List ℕ) → (answer : Result PlainBody TmplFault) × HasBody bytes answer
some cuts bytes = let cut = cuts bytes in (body_in cut.0, (cut.0, cut.1, refl))

-- Few lists.

lists_few : (items : Items) → lists_of items ≤ length (entries_of items)
lists_few none = omega arith
lists_few (one plain rest) = omega (arith, lists_few rest)
lists_few (count less rest) = omega (arith, lists_few rest)
lists_few (list Counted row rest) = omega (arith, lists_few row, lists_few rest, length-append (entries_of row) (End ∷ entries_of rest))
lists_few (list Uncounted row rest) = omega (arith, lists_few row, lists_few rest, length-append (entries_of row) (End ∷ entries_of rest))

-- each entry has bytes
bytes_enough : (front : List Labelled) → length front ≤ length (flat_map entry_bytes front)
bytes_enough [] = omega arith
bytes_enough (x ∷ front) = omega (arith, bytes_enough front, length-append (entry_bytes x) (flat_map entry_bytes front))

same_length : (front : List Labelled) (entries : List Entry) → map (λ entry. entry_of entry.code) front ≡ map Some entries → length front ≡ length entries
same_length [] [] is = refl
same_length [] (e ∷ entries) is = absurd cc
same_length (x ∷ front) [] is = absurd cc
same_length (x ∷ front) (e ∷ entries) is =
    let others : map (λ (entry : Labelled). entry_of entry.code) front ≡ map Some entries = cc in ap suc (same_length front entries others)

-- bytes that are cut whole
record IsWhole (bytes : List ℕ) (items : Items) : Type 0 where
  pub kept : is_kept 60 false items ≡ true
  pub ends : waits false items ≡ false
  pub few : lists_of items ≤ length bytes

are_whole : (bytes : List ℕ) (answer : Result Items TmplFault) (items : Items) → IsCut bytes answer → answer ≡ Ok items → IsWhole bytes items
are_whole bytes answer items (whole more stands ends) is =
    let same : more ≡ items = cc in
    let front = stands.front in
    subst (IsWhole bytes) same record {
      kept = stands.kept;
      ends = ends;
      few = omega (arith, lists_few more, bytes_enough front, same_length front (entries_of more) stands.known, ap (length {A = ℕ}) stands.cut, length-append (flat_map entry_bytes front) []);
    }
are_whole bytes answer items (broken place rest number stands fault) is = absurd cc

module _ (Q : PlainBody → Type 0) (holds : (items : Items) → is_kept 60 false items ≡ true → waits false items ≡ false → 1 + lists_of items ≤ 2 ^ 64 → Q (tmpl_body items)) where
  in_cut : (bytes : List ℕ) (body : PlainBody) (cut : Result Items TmplFault) → IsCut bytes cut → body_in cut ≡ Ok body → length bytes < 2 ^ 64 → Q body
  in_cut bytes body (Ok items) is so short =
      let all = are_whole bytes (Ok items) items is refl in
      let few = all.few in
      let same : tmpl_body items ≡ body = cc in
      subst Q same (holds items all.kept all.ends (omega (arith, few, short)))
  in_cut bytes body (Err fault) is so short = absurd cc

  pub bodies_hold : (bytes : List ℕ) (body : PlainBody) → length bytes < 2 ^ 64 → HasBody bytes (Ok body) → Q body
  bodies_hold bytes body short has = in_cut bytes body has.0 has.1 has.2 short

-- Faults.

module _ (Q : TmplFault → Type 0) (bytes : List ℕ) (holds : (fault : TmplFault) → IsCut bytes (Err fault) → Q fault) where
  fault_in : (fault : TmplFault) (cut : Result Items TmplFault) → IsCut bytes cut → body_in cut ≡ Err fault → Q fault
  fault_in fault (Ok items) is so = absurd cc
  fault_in fault (Err told) is so = let same : told ≡ fault = cc in subst Q same (holds told is)

  pub faults_hold : (fault : TmplFault) → HasBody bytes (Err fault) → Q fault
  faults_hold fault has = fault_in fault has.0 has.1 has.2

pub within : (bytes : List ℕ) (answer : Result Items TmplFault) (fault : TmplFault) → IsCut bytes answer → answer ≡ Err fault → fault.offset ≤ length bytes
within bytes answer fault (whole items stands ends) is = absurd cc
within bytes answer fault (broken place rest number stands cause) is =
    let same : ◌≡◌ {A = TmplFault} (record { number = number; offset = length bytes - length rest }) fault = cc in
    omega (arith, ap (λ (f : TmplFault). f.offset) same)
