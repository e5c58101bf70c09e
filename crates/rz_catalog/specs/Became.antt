-- What becomes of resources and of their catalogue where entries are applied.
use Rattle.std.specs.Prelude.{◌≡◌, false, List, [], ◌∷◌, filter, option_map}
use Rattle.std.specs.List.{list_any}
use Rattle.std.specs.Option.{unwrap_or}
use Rattle.rz_core.specs.declared.moment.Moment.{Moment}
use Rattle.rz_core.specs.declared.resource.Resource.{Resource}
use Rattle.rz_types_fields.specs.declared.tree.Tree.{Tree}
use Rattle.rz_types_table.specs.Table.{Declaration}
use Rattle.rz_catalog_text.specs.declared.entry.Entry.{Entry}
use Rattle.rz_catalog.specs.Apply.{first_such, is_entry_for, placed, same_leaf, with_bytes}
use Rattle.rz_catalog.specs.Leaves.{leaves, HasTexts}
use Rattle.rz_catalog.specs.Stock.{HasTree}

-- an entry of a catalogue with the text of the first of these entries that has its type, id and leaf, or else with its own
abbrev pub with_text : List Entry → Entry → Entry
with_text entries e = record {
  kind = e.kind;
  id = e.id;
  leaf = e.leaf;
  text = unwrap_or (option_map (λ f. f.text) (first_such (same_leaf e) entries)) e.text;
  mark = e.mark;
}

-- What becomes of a resource: all but its bytes stays. Its tree becomes the same row with the texts of its entries in place.
-- Without an entry, and without a tree, it stays as it is.
pub record Became (types : List Declaration) (moment : Moment) (entries : List Entry) (old new : Resource) : Type 0 where
  pub same : new ≡ with_bytes old new.bytes
  pub tree : (row : List Tree) → HasTree types moment old row
      → (changed : List Tree) × HasTexts (placed (filter (is_entry_for old) entries) (leaves row)) row changed × HasTree types moment new changed
  pub others : list_any (is_entry_for old) entries ≡ false → new ≡ old
  pub bare : ((row : List Tree) → HasTree types moment old row → ⊥) → new ≡ old

-- the same of each resource of a list, in its place
abbrev pub BecameEach : List Declaration → Moment → List Entry → List Resource → List Resource → Type 0
BecameEach types moment entries [] [] = Unit {0}
BecameEach types moment entries [] (n ∷ new) = ⊥
BecameEach types moment entries (r ∷ old) [] = ⊥
BecameEach types moment entries (r ∷ old) (n ∷ new) = Became types moment entries r n × BecameEach types moment entries old new
