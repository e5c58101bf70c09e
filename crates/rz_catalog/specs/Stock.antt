-- What the bytes of the resources of a list tell under the types that are declared. (MPW Rez.)
use Rattle.std.specs.Prelude.{◌≡◌, ℕ, List, [], ◌∷◌, Option, Some, None}
use Rattle.rz_core.specs.Decided.{Decided}
use Rattle.rz_core.specs.declared.moment.Moment.{Moment}
use Rattle.rz_core.specs.declared.resource.Resource.{Resource}
use Rattle.rz_types.specs.Field.{PlainBody}
use Rattle.rz_types_fields.specs.declared.tree.Tree.{Tree}
use Rattle.rz_types_table.specs.Table.{declared_for, Declaration}
use Rattle.rz_unlay.specs.Reading.{facts_of, IsTree}
use Rattle.rz_catalog.specs.Leaves.{leaves}

-- the bytes of the resource tell this row as a tree of the fields that are declared for it
abbrev pub HasTree : List Declaration → Moment → Resource → List Tree → Type 0
HasTree types moment r row = (body : PlainBody) × IsTree (declared_for types r) (facts_of moment r) r.bytes body row

-- a resource, and the row that its bytes tell, if there is one
pub record Stocked : Type 0 where
  pub resource : Resource
  pub tree : Option (List Tree)

-- the stock has each resource of the list, in order, with the row that its bytes tell
abbrev pub AreStocked : List Declaration → Moment → List Resource → List Stocked → Type 0
AreStocked types moment [] [] = Unit {0}
AreStocked types moment [] (s ∷ stock) = ⊥
AreStocked types moment (r ∷ list) [] = ⊥
AreStocked types moment (r ∷ list) (s ∷ stock) =
    (s.resource ≡ r) × Decided (HasTree types moment r) s.tree × AreStocked types moment list stock

-- the leaves of the row, where there is one
abbrev pub texts_in : Option (List Tree) → List (List ℕ)
texts_in None = []
texts_in (Some row) = leaves row

abbrev pub texts_of : Stocked → List (List ℕ)
texts_of s = texts_in s.tree
