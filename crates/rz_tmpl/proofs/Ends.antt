-- Entries from the last to the first.
use Rattle.std.proofs.Common.{◌≡◌, ℕ, ◌+◌, List, [], ◌∷◌, ◌++◌, length, Option, Some, None, refl, sym, ap, subst, ◌∙◌, append_assoc, arith}
use Rattle.std.specs.Prelude.{option_and_then}
use Rattle.std.proofs.lemmas.List.{append-nil}
use Rattle.rz_tmpl.specs.Bodies.{append}
use Rattle.rz_tmpl.specs.Items.{count, entries_of, list, none, one, Items}
use Rattle.rz_tmpl.specs.declared.entry.ListForm.TheVariants.{Counted, Uncounted}
use Rattle.rz_tmpl.specs.declared.entry.Entry.{Entry}
use Rattle.rz_tmpl.specs.declared.entry.Entry.TheVariants.{Count, End, One, Start}
use Rattle.rz_tmpl.proofs.Places.{append_none}
use Rattle.rz_tmpl.proofs.Shown.{some_same}
use Rattle.rz_tmpl.specs.Body.{lists_of}
use Rattle.rz_tmpl.specs.Parts.{nothing, starts, starts_in, with_entry, Ends, Goes, Holds, IsPart}
use Rattle.rz_tmpl.specs.declared.parts.Parts.{Parts}

abbrev pub ends_of : Items → List Items → Ends
ends_of inner outer = record { inner = inner; outer = outer }

-- Several entries.

abbrev pub with_all : List Entry → Ends → Option Ends
with_all [] ends = Some ends
with_all (entry ∷ entries) ends = option_and_then (with_entry entry) (with_all entries ends)

and_some : (o : Option Ends) → o ≡ option_and_then (λ next. Some next) o
and_some None = refl
and_some (Some next) = refl

and_twice : (f g : Ends → Option Ends) (o : Option Ends) → option_and_then g (option_and_then f o) ≡ option_and_then (λ next. option_and_then g (f next)) o
and_twice f g None = refl
and_twice f g (Some next) = refl

with_both : (a b : List Entry) (ends : Ends) → with_all (a ++ b) ends ≡ option_and_then (λ next. with_all a next) (with_all b ends)
with_both [] b ends = and_some (with_all b ends)
with_both (entry ∷ a) b ends = ap (option_and_then (with_entry entry)) (with_both a b ends) ∙ and_twice (λ next. with_all a next) (with_entry entry) (with_all b ends)

items_end : (items inner : Items) (outer : List Items) → with_all (entries_of items) (ends_of inner outer) ≡ Some (ends_of (append items inner) outer)
items_end none inner outer = refl
items_end (one plain rest) inner outer = ap (option_and_then (with_entry (One plain))) (items_end rest inner outer)
items_end (count less rest) inner outer = ap (option_and_then (with_entry (Count less))) (items_end rest inner outer)
items_end (list form row rest) inner outer =
    ap (option_and_then (with_entry (Start form)))
    (with_both (entries_of row) (End ∷ entries_of rest) (ends_of inner outer)
    ∙ ap (λ (o : Option Ends). option_and_then (λ next. with_all (entries_of row) next) (option_and_then (with_entry End) o)) (items_end rest inner outer)
    ∙ items_end row none (append rest inner ∷ outer))
    ∙ ap (λ (r : Items). Some (ends_of (list form r (append rest inner)) outer)) (append_none row)

-- the entries of a body make that body
pub whole_end : (items : Items) → with_all (entries_of items) nothing ≡ Some (ends_of items [])
whole_end items = items_end items none [] ∙ ap (λ (r : Items). Some (ends_of r [])) (append_none items)

-- Counted lists.

starts_both : (a b : List Entry) → starts_in (a ++ b) ≡ starts_in a + starts_in b
starts_both [] b = omega arith
starts_both (entry ∷ a) b = omega (arith, starts_both a b)

starts_last : (entries : List Entry) (entry : Entry) → starts_in (entries ++ entry ∷ []) ≡ starts_in entries + starts entry
starts_last entries entry = omega (arith, starts_both entries (entry ∷ []))

pub lists_are : (items : Items) → starts_in (entries_of items) ≡ lists_of items
lists_are none = refl
lists_are (one plain rest) = omega (arith, lists_are rest)
lists_are (count less rest) = omega (arith, lists_are rest)
lists_are (list Counted row rest) = omega (arith, starts_both (entries_of row) (End ∷ entries_of rest), lists_are row, lists_are rest)
lists_are (list Uncounted row rest) = omega (arith, starts_both (entries_of row) (End ∷ entries_of rest), lists_are row, lists_are rest)

-- The loop.

pub record Read (entries left : List Entry) (parts : Parts) : Type 0 where
  pub seen : List Entry
  pub whole : entries ≡ left ++ seen
  pub ends : Ends
  pub made : with_all seen nothing ≡ Some ends
  pub holds : Holds (starts_in left) ends parts

next_end : (front seen : List Entry) (entry : Entry) (ends goal : Ends) → with_all (front ++ entry ∷ seen) nothing ≡ Some goal → with_all seen nothing ≡ Some ends
    → (next : Ends) × (with_entry entry ends ≡ Some next)
next_end front seen entry ends goal whole is =
    some_of (with_entry entry ends) (sym (with_both front (entry ∷ seen) nothing ∙ ap (λ (o : Option Ends). option_and_then (λ next. with_all front next) (option_and_then (with_entry entry) o)) is) ∙ whole)
  where
    some_of : (o : Option Ends) → option_and_then (λ next. with_all front next) o ≡ Some goal → (next : Ends) × (o ≡ Some next)
    some_of None is = absurd cc
    some_of (Some next) is = (next, refl)

pub begins : (entries : List Entry) (parts : Parts) → ((lists : ℕ) → starts_in entries + 1 ≡ lists + 1 → Holds lists nothing parts) → Read entries entries parts
begins entries parts holds = record { seen = []; whole = sym (append-nil entries); ends = nothing; made = refl; holds = holds (starts_in entries) refl }

pub goes_on : (entries left front : List Entry) (entry : Entry) (old new : Parts) → ((items : Items) × (entries ≡ entries_of items)) → Read entries left old → left ≡ front ++ entry ∷ []
    → Goes old entry new → Read entries front new
goes_on entries left front entry old new are read is goes =
    let whole : entries ≡ front ++ entry ∷ read.seen = read.whole ∙ ap (λ (l : List Entry). l ++ read.seen) is ∙ append_assoc front (entry ∷ []) read.seen in
    let next = next_end front read.seen entry read.ends (ends_of are.0 []) (ap (λ (l : List Entry). with_all l nothing) (sym whole ∙ are.1) ∙ whole_end are.0) read.made in
    record {
      seen = entry ∷ read.seen;
      whole = whole;
      ends = next.0;
      made = ap (option_and_then (with_entry entry)) read.made ∙ next.1;
      holds = goes (starts_in front) read.ends next.0 (subst (λ (n : ℕ). Holds n read.ends old) (ap starts_in is ∙ starts_last front entry) read.holds) next.1;
    }

pub ends_whole : (entries left : List Entry) (parts : Parts) (items : Items) → Read entries left parts → length left ≡ 0 → entries ≡ entries_of items → IsPart 1 items parts.inner
ends_whole entries [] parts items read is are =
    let same : Some read.ends ≡ Some (ends_of items []) = sym read.made ∙ ap (λ (l : List Entry). with_all l nothing) (sym read.whole ∙ are) ∙ whole_end items in
    subst (λ (e : Ends). IsPart 1 e.inner parts.inner) (some_same read.ends (ends_of items []) same) read.holds.inner
ends_whole entries (entry ∷ left) parts items read is are = absurd (omega arith)
