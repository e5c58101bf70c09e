-- What the code keeps of bodies whose entries are read from the last to the first.
use Rattle.std.specs.Prelude.{◌≡◌, ℕ, ◌+◌, List, [], ◌∷◌, reverse, Option, Some, None}
use Rattle.rz_tmpl.specs.Items.{count, list, none, one, Items}
use Rattle.rz_tmpl.specs.declared.entry.Entry.{Entry}
use Rattle.rz_tmpl.specs.declared.entry.Entry.TheVariants.{Count, End, One, Start}
use Rattle.rz_tmpl.specs.declared.entry.ListForm.{ListForm}
use Rattle.rz_tmpl.specs.declared.entry.ListForm.TheVariants.{Counted, Uncounted}
use Rattle.rz_tmpl.specs.Body.{body_from, lists_of, next_named}
use Rattle.rz_tmpl.specs.Closed.{is_closed, is_fixed, is_inner}
use Rattle.rz_tmpl.specs.declared.closing.Closing.{Closing}
use Rattle.rz_tmpl.specs.declared.parts.Part.{Part}
use Rattle.rz_tmpl.specs.declared.parts.Parts.{Parts}
use Rattle.rz_types_fields.specs.Field.{plain_body, PlainBody}

-- what the last entries make: the end of the innermost body, and those of the bodies around it, from the inside out
pub record Ends : Type 0 where
  pub inner : Items
  pub outer : List Items

abbrev pub nothing : Ends
nothing = record { inner = none; outer = [] }

-- with the start of a list before it, the body around goes on
abbrev pub around_list : ListForm → Items → List Items → Option Ends
around_list form row [] = None
around_list form row (around ∷ outer) = Some (record { inner = list form row around; outer = outer })

-- with an entry before it
abbrev pub with_entry : Entry → Ends → Option Ends
with_entry (One plain) ends = Some (record { inner = one plain ends.inner; outer = ends.outer })
with_entry (Count form) ends = Some (record { inner = count form ends.inner; outer = ends.outer })
with_entry (Start form) ends = around_list form ends.inner ends.outer
with_entry End ends = Some (record { inner = none; outer = ends.inner ∷ ends.outer })

-- how many counted lists begin at an entry
abbrev pub starts : Entry → ℕ
starts (One plain) = 0
starts (Count form) = 0
starts (Start Counted) = 1
starts (Start Uncounted) = 0
starts End = 0

abbrev pub starts_in : List Entry → ℕ
starts_in [] = 0
starts_in (entry ∷ entries) = starts entry + starts_in entries

-- the fields that are kept
abbrev pub body_in : Part → PlainBody
body_in part = plain_body (reverse part.fields.items)

-- where the bytes of a body end
abbrev pub closing_of : Items → Closing
closing_of items = record { fixed = is_fixed items; inner = is_inner items; closed = is_closed items }

-- it is the end of a body whose first counted list, or the next one after, has this number
pub record IsPart (number : ℕ) (items : Items) (part : Part) : Type 0 where
  pub body : body_in part ≡ body_from number items
  pub next : part.next ≡ next_named number items
  pub closing : part.closing ≡ closing_of items

-- the same of bodies from the inside out
abbrev pub AreParts : ℕ → List Items → List Part → Type 0
AreParts number [] [] = Unit {0}
AreParts number [] (part ∷ parts) = ⊥
AreParts number (items ∷ outer) [] = ⊥
AreParts number (items ∷ outer) (part ∷ parts) = IsPart number items part × AreParts (number + lists_of items) outer parts

-- what is kept is so after so many counted lists
pub record Holds (lists : ℕ) (ends : Ends) (parts : Parts) : Type 0 where
  pub number : parts.number ≡ lists + 1
  pub inner : IsPart (lists + 1) ends.inner parts.inner
  pub outer : AreParts (lists + 1 + lists_of ends.inner) ends.outer (reverse parts.outer.items)

-- what is kept goes on to an entry before it
abbrev pub Goes : Parts → Entry → Parts → Type 0
Goes old entry new = (lists : ℕ) (ends next : Ends) → Holds (lists + starts entry) ends old → with_entry entry ends ≡ Some next → Holds lists next new
