-- What is left of the entries in a loop over them.
use Rattle.std.proofs.Common.{◌≡◌, ℕ, suc, ◌+◌, ◌-◌, ◌*◌, ◌<◌, ◌≤◌, ◌==◌, if◌then◌else◌, Bool, List, [], ◌∷◌, map, Option, Some, None, sym, ap, ◌∙◌, arith}
use Rattle.std.proofs.lemmas.Bool.{eq-eqb, ne_eqb}
use Rattle.std.specs.List.{find}
use Rattle.rz_core.specs.Lists.{or_else, first_of}
use Rattle.rz_core.specs.Numbers.{items_from}
use Rattle.rz_bridge.specs.Apple.{entry_at, entry_count, entries}
use Rattle.rz_bridge.specs.declared.entry.Entry.{Entry}

-- the entries from a position on
unfoldable pub entries_left : List ℕ → ℕ → List Entry
entries_left bytes position = items_from (entry_at bytes) 12 (26 + 12 * position) (entry_count bytes - position)

pub entries_first : (bytes : List ℕ) → entries_left bytes 0 ≡ entries bytes
unfolding entries_left entries
entries_first bytes = let all : entry_count bytes - 0 ≡ entry_count bytes = omega arith in ap (items_from (entry_at bytes) 12 26) all

pub entries_more : (bytes : List ℕ) (position : ℕ) → position < entry_count bytes
    → entries_left bytes position ≡ entry_at bytes (26 + 12 * position) ∷ entries_left bytes (position + 1)
unfolding entries_left
entries_more bytes position below =
    let next : entry_count bytes - position ≡ suc (entry_count bytes - (position + 1)) = omega arith in
    let place : 26 + 12 * position + 12 ≡ 26 + 12 * (position + 1) = omega arith in
    ap (items_from (entry_at bytes) 12 (26 + 12 * position)) next
    ∙ ap (λ (n : ℕ). entry_at bytes (26 + 12 * position) ∷ items_from (entry_at bytes) 12 n (entry_count bytes - (position + 1))) place

pub entries_end : (bytes : List ℕ) (position : ℕ) → entry_count bytes ≤ position → entries_left bytes position ≡ []
unfolding entries_left
entries_end bytes position past =
    let none : entry_count bytes - position ≡ 0 = omega arith in ap (items_from (entry_at bytes) 12 (26 + 12 * position)) none

-- A loop for the first fault of an entry. `entry` stands at the position, and `all` is the first fault of all entries.

module _ {F : Type 0} (rule : Entry → Option F) (bytes : List ℕ) (position : ℕ) (all : Option F) (so_far : first_of (map rule (entries_left bytes position)) ≡ all) where
  fault_at : position < entry_count bytes → (entry : Entry) → entry ≡ entry_at bytes (26 + 12 * position)
      → or_else (rule entry) (first_of (map rule (entries_left bytes (position + 1)))) ≡ all
  fault_at below entry is =
      ap (λ (e : Entry). or_else (rule e) (first_of (map rule (entries_left bytes (position + 1))))) is
      ∙ sym (ap (λ (l : List Entry). first_of (map rule l)) (entries_more bytes position below)) ∙ so_far

  pub fault_stops : position < entry_count bytes → (entry : Entry) → entry ≡ entry_at bytes (26 + 12 * position) → (fault : F) → Some fault ≡ rule entry → Some fault ≡ all
  fault_stops below entry is fault broken =
      ap (λ (o : Option F). or_else o (first_of (map rule (entries_left bytes (position + 1))))) broken ∙ fault_at below entry is

  pub fault_more : position < entry_count bytes → (entry : Entry) → entry ≡ entry_at bytes (26 + 12 * position) → None ≡ rule entry
      → first_of (map rule (entries_left bytes (position + 1))) ≡ all
  fault_more below entry is keeps =
      ap (λ (o : Option F). or_else o (first_of (map rule (entries_left bytes (position + 1))))) keeps ∙ fault_at below entry is

  pub fault_ends : entry_count bytes ≤ position → None ≡ all
  fault_ends past = sym (ap (λ (l : List Entry). first_of (map rule l)) (entries_end bytes position past)) ∙ so_far

-- A loop for the first entry with an id, of all entries `all`.

abbrev pub entry_with : ℕ → List Entry → Option Entry
entry_with id l = find (λ entry. entry.id == id) l

module _ (id : ℕ) (bytes : List ℕ) (position : ℕ) (all : Option Entry) (so_far : entry_with id (entries_left bytes position) ≡ all) where
  found_at : position < entry_count bytes → (entry : Entry) → entry ≡ entry_at bytes (26 + 12 * position)
      → (if entry.id == id then Some entry else entry_with id (entries_left bytes (position + 1))) ≡ all
  found_at below entry is =
      ap (λ (e : Entry). if e.id == id then Some e else entry_with id (entries_left bytes (position + 1))) is
      ∙ sym (ap (entry_with id) (entries_more bytes position below)) ∙ so_far

  pub found_stops : position < entry_count bytes → (entry : Entry) → entry ≡ entry_at bytes (26 + 12 * position) → entry.id ≡ id → Some entry ≡ all
  found_stops below entry is same =
      sym (ap (λ (t : Bool). if t then Some entry else entry_with id (entries_left bytes (position + 1))) (eq-eqb entry.id id same)) ∙ found_at below entry is

  pub found_more : position < entry_count bytes → (entry : Entry) → entry ≡ entry_at bytes (26 + 12 * position) → (entry.id ≡ id → ⊥)
      → entry_with id (entries_left bytes (position + 1)) ≡ all
  found_more below entry is differs =
      sym (ap (λ (t : Bool). if t then Some entry else entry_with id (entries_left bytes (position + 1))) (ne_eqb entry.id id differs)) ∙ found_at below entry is

  pub found_ends : entry_count bytes ≤ position → None ≡ all
  found_ends past = sym (ap (entry_with id) (entries_end bytes position past)) ∙ so_far
