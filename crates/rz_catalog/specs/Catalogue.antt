-- The catalogue of a list of resources: an entry for each leaf of each tree.
use Rattle.std.specs.Prelude.{◌≡◌, ℕ, ◌<◌, ◌^◌, ℤ, FitsSigned, List, [], ◌∷◌, length}
use Rattle.std.specs.Int.{w16}
use Rattle.std.specs.List.{flat_map}
use Rattle.rz_core.specs.Lists.{each_with_front}
use Rattle.rz_core.specs.declared.fault.Mark.{Mark}
use Rattle.rz_core.specs.declared.moment.Moment.{Moment}
use Rattle.rz_core.specs.declared.resource.OsType.{OsType}
use Rattle.rz_core.specs.declared.resource.Resource.{Resource}
use Rattle.rz_catalog_text.specs.declared.entry.Entry.{Entry}
use Rattle.rz_types_table.specs.Table.{Declaration}
use Rattle.rz_catalog.specs.Stock.{texts_of, AreStocked, Stocked}

-- the place of an entry that no file has
abbrev pub nowhere : Mark
nowhere = record { file = 0; line = 0 }

abbrev pub entry_of : OsType → ℤ → ℕ → List ℕ → Entry
entry_of kind id leaf text = record { kind = kind; id = id; leaf = leaf; text = text; mark = nowhere }

-- an entry for each of the texts of a resource with this type and id, numbered from 0
abbrev pub entries_of : OsType → ℤ → List (List ℕ) → List Entry
entries_of kind id texts = each_with_front (λ before text. entry_of kind id (length before) text ∷ []) texts

-- those of all resources, in order
abbrev pub catalogue : List Stocked → List Entry
catalogue stock = flat_map (λ s. entries_of s.resource.kind s.resource.id (texts_of s)) stock

-- these entries are the catalogue of the list
abbrev pub IsCatalogue : List Declaration → Moment → List Resource → List Entry → Type 0
IsCatalogue types moment list entries = (stock : List Stocked) × AreStocked types moment list stock × (entries ≡ catalogue stock)

-- a resource has a type of 32 bits and an id of 16
abbrev pub HasKey : Resource → Type 0
HasKey r = (r.kind.code < 2 ^ 32) × FitsSigned w16 r.id
