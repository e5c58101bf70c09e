-- The bodies that entries make, and what stands open between two entries.
use Rattle.std.specs.Prelude.{ℕ, zero, suc, Bool, true, false, not, ◌&&◌, ◌||◌, List, [], ◌∷◌, ◌++◌}
use Rattle.rz_tmpl.specs.Entry.{takes}
use Rattle.rz_tmpl.specs.declared.entry.CountForm.{CountForm}
use Rattle.rz_tmpl.specs.declared.entry.Entry.{Entry}
use Rattle.rz_tmpl.specs.declared.entry.Entry.TheVariants.{Count, End, One, Start}
use Rattle.rz_tmpl.specs.declared.entry.ListForm.{ListForm}
use Rattle.rz_tmpl.specs.declared.entry.ListForm.TheVariants.{Counted, Uncounted}
use Rattle.rz_tmpl.specs.declared.entry.Plain.{Plain}

-- a body: plain entries, counts, and lists with the body of their rows
pub data Items : Type 0 where
  none : Items
  one : (plain : Plain) (rest : Items) → Items
  count : (form : CountForm) (rest : Items) → Items
  list : (form : ListForm) (row rest : Items) → Items

abbrev pub entries_of : Items → List Entry
entries_of none = []
entries_of (one plain rest) = One plain ∷ entries_of rest
entries_of (count form rest) = Count form ∷ entries_of rest
entries_of (list form row rest) = Start form ∷ (entries_of row ++ End ∷ entries_of rest)

-- a count waits for its list after a body, where one waits in front of it or none does
abbrev pub waits : Bool → Items → Bool
waits waiting none = waiting
waits waiting (one plain rest) = waits waiting rest
waits waiting (count form rest) = waits true rest
waits waiting (list Counted row rest) = waits false rest
waits waiting (list Uncounted row rest) = waits waiting rest

-- a row of the body has a value
abbrev pub has_value : Items → Bool
has_value none = false
has_value (one plain rest) = takes plain || has_value rest
has_value (count form rest) = has_value rest
has_value (list form row rest) = true

-- a list may begin: a counted one where a count waits
abbrev pub may_start : ListForm → (waiting : Bool) → Bool
may_start Counted waiting = waiting
may_start Uncounted waiting = true

-- a count waits after a list
abbrev pub waits_behind : ListForm → (waiting : Bool) → Bool
waits_behind Counted waiting = false
waits_behind Uncounted waiting = waiting

-- A body keeps the rules where a count waits in front of it or none does, and so many lists may be open in one another:
-- one count at a time waits, each counted list has its count, and none waits at the end of a list, whose rows have
-- values.
abbrev pub is_kept : (left : ℕ) (waiting : Bool) → Items → Bool
is_kept left waiting none = true
is_kept left waiting (one plain rest) = is_kept left waiting rest
is_kept left waiting (count form rest) = not waiting && is_kept left true rest
is_kept zero waiting (list form row rest) = false
is_kept (suc left) waiting (list form row rest) =
    may_start form waiting
    && (is_kept left false row && (not (waits false row) && (has_value row && is_kept (suc left) (waits_behind form waiting) rest)))

-- Places.

-- what stands before a place: whole items, or a list that is open after such, and what stands before the place in it
pub data Place : Type 0 where
  at : (items : Items) → Place
  inside : (before : Items) (form : ListForm) (place : Place) → Place

abbrev pub entries_before : Place → List Entry
entries_before (at items) = entries_of items
entries_before (inside before form place) = entries_of before ++ Start form ∷ entries_before place

-- all before the place keeps the rules
abbrev pub is_place_kept : (left : ℕ) → Place → Bool
is_place_kept left (at items) = is_kept left false items
is_place_kept zero (inside before form place) = false
is_place_kept (suc left) (inside before form place) =
    is_kept (suc left) false before && (may_start form (waits false before) && is_place_kept left place)

-- what stands before the place in the innermost open list, or in the whole where none is open
abbrev pub innermost : Place → Items
innermost (at items) = items
innermost (inside before form place) = innermost place

-- for each open list, from the outermost on, whether a count will wait after it
abbrev pub waiting_outside : Place → List Bool
waiting_outside (at items) = []
waiting_outside (inside before form place) = waits_behind form (waits false before) ∷ waiting_outside place
