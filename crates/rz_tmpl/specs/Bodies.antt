-- The place after an entry, and what the code keeps of a place.
use Rattle.std.specs.Prelude.{◌≡◌, ℕ, ◌≤◌, ◌+◌, false, List, [], ◌∷◌, length, take, drop, Option, Some, None, option_map}
use Rattle.rz_tmpl.specs.Cut.{entry_fault, next_fault, standing, Standing}
use Rattle.rz_tmpl.specs.Entry.{entry_of}
use Rattle.rz_tmpl.specs.Items.{at, count, has_value, innermost, inside, list, none, one, waiting_outside, waits, Items, Place}
use Rattle.rz_tmpl.specs.declared.entry.Entry.{Entry}
use Rattle.rz_tmpl.specs.declared.entry.Entry.TheVariants.{Count, End, One, Start}
use Rattle.rz_tmpl.specs.declared.entry.ListForm.{ListForm}
use Rattle.rz_tmpl.specs.declared.bodies.Next.{Next}
use Rattle.rz_tmpl.specs.declared.bodies.Bodies.{Bodies}

-- a body after another
abbrev pub append : Items → Items → Items
append none more = more
append (one plain rest) more = one plain (append rest more)
append (count form rest) more = count form (append rest more)
append (list form row rest) more = list form row (append rest more)

-- the place after the end of the innermost list, where the inner place that is open ends so
abbrev pub close : Items → ListForm → Place → Option Place → Option Place
close before form (at items) closed = Some (at (append before (list form items none)))
close before form (inside more other place) closed = option_map (inside before form) closed

-- the place after an entry; the end of a list has one in a list alone
abbrev pub behind : Place → Entry → Option Place
behind (at items) (One plain) = Some (at (append items (one plain none)))
behind (at items) (Count form) = Some (at (append items (count form none)))
behind (at items) (Start form) = Some (inside items form (at none))
behind (at items) End = None
behind (inside before form place) (One plain) = option_map (inside before form) (behind place (One plain))
behind (inside before form place) (Count less) = option_map (inside before form) (behind place (Count less))
behind (inside before form place) (Start other) = option_map (inside before form) (behind place (Start other))
behind (inside before form place) End = close before form place (behind place End)

-- what is kept is so at this place
pub record Shows (place : Place) (bodies : Bodies) : Type 0 where
  pub waiting : bodies.waiting ≡ waits false (innermost place)
  pub valued : bodies.valued ≡ has_value (innermost place)
  pub outside : bodies.outside.items ≡ waiting_outside place

abbrev pub standing_of : Bodies → Standing
standing_of bodies = standing (length bodies.outside.items) bodies.waiting bodies.valued

-- the fault of bytes with their first entry, or at their end, where so much stands open
abbrev pub fault_at : Bodies → List ℕ → Option ℕ
fault_at bodies bytes = next_fault (standing_of bodies) bytes

-- that of an entry
abbrev pub fault_of : Bodies → Entry → Option ℕ
fault_of bodies entry = entry_fault (standing_of bodies) entry

-- the bytes begin with this entry
pub record IsNext (bytes : List ℕ) (next : Next) : Type 0 where
  pub label : ℕ
  pub more : List ℕ
  pub whole : bytes ≡ label ∷ more
  pub fits : label + 4 ≤ length more
  pub known : entry_of (take 4 (drop label more)) ≡ Some next.entry
  pub length : next.length ≡ label + 5

-- the bytes have ended, or begin with this entry, without a fault
abbrev pub GoesOn : Bodies → List ℕ → Option Next → Type 0
GoesOn bodies bytes None = (bytes ≡ []) × (fault_at bodies bytes ≡ None)
GoesOn bodies bytes (Some next) = IsNext bytes next × (fault_of bodies next.entry ≡ None)
