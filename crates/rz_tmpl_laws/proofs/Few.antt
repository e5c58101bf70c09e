-- Bytes have fewer lists than bytes, and their entries keep the rules.
use Rattle.std.proofs.Common.{◌≡◌, ℕ, ◌≤◌, true, false, List, [], ◌∷◌, length, Some, Ok, refl, sym, ap, subst, ◌∙◌, arith}
use Rattle.std.specs.List.{flat_map}
use Rattle.std.specs.declared.result.Result.{Result}
use Rattle.std.proofs.lemmas.List.{append-nil, length-append, length-map}
use Rattle.rz_tmpl.proofs.Ends.{lists_are}
use Rattle.rz_tmpl.specs.Body.{lists_of}
use Rattle.rz_tmpl.specs.Parts.{starts, starts_in}
use Rattle.rz_tmpl.specs.Cut.{broken, entry_bytes, whole, IsCut, Labelled, Stands}
use Rattle.rz_tmpl.specs.Entry.{entry_of}
use Rattle.rz_tmpl.specs.Items.{at, entries_of, is_kept, waits, Items}
use Rattle.rz_tmpl.specs.declared.entry.Entry.{Entry}
use Rattle.rz_tmpl.specs.declared.entry.Entry.TheVariants.{Count, End, One, Start}
use Rattle.rz_tmpl.specs.declared.entry.ListForm.TheVariants.{Counted, Uncounted}
use Rattle.rz_tmpl.specs.declared.fault.TmplFault.{TmplFault}

one_starts : (entry : Entry) → starts entry ≤ 1
one_starts (One plain) = omega arith
one_starts (Count less) = omega arith
one_starts (Start Counted) = omega arith
one_starts (Start Uncounted) = omega arith
one_starts End = omega arith

starts_few : (entries : List Entry) → starts_in entries ≤ length entries
starts_few [] = omega arith
starts_few (entry ∷ entries) = omega (arith, one_starts entry, starts_few entries)

entries_long : (front : List Labelled) → length front ≤ length (flat_map entry_bytes front)
entries_long [] = omega arith
entries_long (entry ∷ front) =
    let long = length-append (entry_bytes entry) (flat_map entry_bytes front) in
    omega (arith, long, entries_long front)

-- what is known of whole entries
pub record IsWhole (bytes : List ℕ) (items : Items) : Type 0 where
  pub kept : is_kept 60 false items ≡ true
  pub ends : waits false items ≡ false
  pub few : lists_of items ≤ length bytes

stands_whole : (bytes : List ℕ) (items : Items) → Stands bytes (at items) [] → waits false items ≡ false → IsWhole bytes items
stands_whole bytes items stands ends =
    let count : length stands.front ≡ length (entries_of items) =
    sym (length-map stands.front (λ entry. entry_of entry.code)) ∙ ap length stands.known ∙ length-map (entries_of items) Some in
    let long : length bytes ≡ length (flat_map entry_bytes stands.front) = ap length stands.cut ∙ ap length (append-nil (flat_map entry_bytes stands.front)) in
    let lists = lists_are items in
    record { kept = stands.kept; ends = ends; few = omega (arith, count, long, lists, starts_few (entries_of items), entries_long stands.front) }

whole_in : (bytes : List ℕ) (answer : Result Items TmplFault) (items : Items) → IsCut bytes answer → answer ≡ Ok items → IsWhole bytes items
whole_in bytes answer items (whole more stands ends) is = let same : more ≡ items = cc in subst (IsWhole bytes) same (stands_whole bytes more stands ends)
whole_in bytes answer items (broken place rest number stands fault) is = absurd cc

pub are_whole : (bytes : List ℕ) (items : Items) → IsCut bytes (Ok items) → IsWhole bytes items
are_whole bytes items cut = whole_in bytes (Ok items) items cut refl
