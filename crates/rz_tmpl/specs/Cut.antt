-- How the bytes of a template are cut into entries, and where that ends at a fault.
use Rattle.std.specs.Prelude.{◌≡◌, ℕ, ◌+◌, ◌-◌, ◌==◌, nat_lt, Bool, true, false, not, if◌then◌else◌, List, [], ◌∷◌, ◌++◌, length, map, take, drop, Option, Some, None, Ok, Err}
use Rattle.std.specs.List.{flat_map, AllByRecursion}
use Rattle.std.specs.declared.result.Result.{Result}
use Rattle.rz_tmpl.specs.Entry.{entry_of}
use Rattle.rz_tmpl.specs.Items.{at, entries_before, entries_of, has_value, innermost, is_place_kept, may_start, waiting_outside, waits, Items, Place}
use Rattle.rz_tmpl.specs.declared.entry.Entry.{Entry}
use Rattle.rz_tmpl.specs.declared.entry.Entry.TheVariants.{Count, End, One, Start}
use Rattle.rz_tmpl.specs.declared.fault.TmplFault.{TmplFault}

-- so many lists may be open in one another
abbrev pub most_open : ℕ
most_open = 60

-- an entry as it stands in the bytes: a label after its length, which nothing reads, and a code of four bytes
pub record Labelled : Type 0 where
  pub label : List ℕ
  pub code : List ℕ

pub record IsLabelled (entry : Labelled) : Type 0 where
  pub code : length entry.code ≡ 4

abbrev pub entry_bytes : Labelled → List ℕ
entry_bytes entry = length entry.label ∷ (entry.label ++ entry.code)

-- Faults.

-- what holds before an entry: no further list may be opened; no list is open; a count waits in the innermost body; a
-- row of that body has a value
pub record Standing : Type 0 where
  pub full : Bool
  pub outermost : Bool
  pub waiting : Bool
  pub valued : Bool

-- the same of so many open lists
abbrev pub standing : (lists : ℕ) (waiting valued : Bool) → Standing
standing lists waiting valued = record { full = lists == most_open; outermost = lists == 0; waiting = waiting; valued = valued }

abbrev pub standing_at : Place → Standing
standing_at place = standing (length (waiting_outside place)) (waits false (innermost place)) (has_value (innermost place))

-- the number beside the first test that holds
abbrev pub first_where : List (Bool × ℕ) → Option ℕ
first_where [] = None
first_where (row ∷ rows) = if row.0 then Some row.1 else first_where rows

-- the fault of an entry
abbrev pub entry_fault : Standing → Entry → Option ℕ
entry_fault s (One plain) = None
entry_fault s (Count form) = first_where ((s.waiting, 454) ∷ [])
entry_fault s (Start form) = first_where ((not (may_start form s.waiting), 454) ∷ (s.full, 456) ∷ [])
entry_fault s End = first_where ((s.outermost, 453) ∷ (s.waiting, 454) ∷ (not s.valued, 455) ∷ [])

-- the fault at the end of the bytes
abbrev pub end_fault : Standing → Option ℕ
end_fault s = first_where ((not s.outermost, 453) ∷ (s.waiting, 454) ∷ [])

-- the fault of an entry of this code; 452 where no entry has the code
abbrev pub code_fault : Standing → Option Entry → Option ℕ
code_fault s None = Some 452
code_fault s (Some entry) = entry_fault s entry

-- that of the next entry of these bytes
abbrev pub next_fault : Standing → List ℕ → Option ℕ
next_fault s [] = end_fault s
next_fault s (label ∷ bytes) =
    if nat_lt (length bytes) (label + 4) then Some 451 else code_fault s (entry_of (take 4 (drop label bytes)))

-- the fault of the bytes after a place at their first entry, or at their end
abbrev pub fault_behind : Place → List ℕ → Option ℕ
fault_behind place bytes = next_fault (standing_at place) bytes

-- Cuts.

-- in front of these bytes stand whole entries without a fault, which lead to this place
pub record Stands (bytes : List ℕ) (place : Place) (rest : List ℕ) : Type 0 where
  pub front : List Labelled
  pub whole : AllByRecursion IsLabelled front
  pub cut : bytes ≡ flat_map entry_bytes front ++ rest
  pub known : map (λ entry. entry_of entry.code) front ≡ map Some (entries_before place)
  pub kept : is_place_kept most_open place ≡ true

-- the bytes are the entries of a body, or they have this fault first, at the offset of an entry or at their end
pub data IsCut (bytes : List ℕ) : Result Items TmplFault → Type 0 where
  whole : (items : Items) → Stands bytes (at items) [] → waits false items ≡ false → IsCut bytes (Ok items)
  broken : (place : Place) (rest : List ℕ) (number : ℕ) → Stands bytes place rest → fault_behind place rest ≡ Some number
      → IsCut bytes (Err (record { number = number; offset = length bytes - length rest }))

-- the entries of a body that was cut, or the fault
abbrev pub entries_in : Result Items TmplFault → Result (List Entry) TmplFault
entries_in (Ok items) = Ok (entries_of items)
entries_in (Err fault) = Err fault

-- the bytes have these entries, or this fault
abbrev pub Reads : List ℕ → Result (List Entry) TmplFault → Type 0
Reads bytes answer = (cut : Result Items TmplFault) × IsCut bytes cut × (entries_in cut ≡ answer)
