-- How a resource is shown, under the types that are declared. (As MPW DeRez shows it.)
use Rattle.std.specs.Prelude.{◌≡◌, ℕ, Bool, false, List}
use Rattle.rz_core.specs.declared.moment.Moment.{Moment}
use Rattle.rz_core.specs.declared.resource.Resource.{Resource}
use Rattle.rz_types_fields.specs.declared.tree.Tree.{Tree}
use Rattle.rz_show.specs.Shown.{row_uses}
use Rattle.rz_show.specs.Showing.{by_bytes, by_row, showing_text, Showing}
use Rattle.rz_types.specs.Field.{PlainBody}
use Rattle.rz_types_table.specs.Table.{declared_for, Declaration}
use Rattle.rz_unlay.specs.Reading.{facts_of, IsTree}

-- what is known where resources are shown: the declarations, which names, in whatever case, are macros, and the moment
pub record Known : Type 0 where
  pub types : List Declaration
  pub is_macro : List ℕ → Bool
  pub moment : Moment

-- The bytes of a resource tell this row as a tree of the fields that are declared for it, and no case that the row
-- chooses has the name of a macro.
pub record TellsRow (known : Known) (r : Resource) (body : PlainBody) (row : List Tree) : Type 0 where
  pub tree : IsTree (declared_for known.types r) (facts_of known.moment r) r.bytes body row
  pub bare : row_uses known.is_macro body row ≡ false

-- a resource is shown by such a row, and where there is none by its bytes
pub data IsShownBy (known : Known) (r : Resource) (showing : Showing) : Type 0 where
  its_row : (body : PlainBody) (row : List Tree) → TellsRow known r body row → showing ≡ by_row r body row → IsShownBy known r showing
  its_bytes : ((body : PlainBody) (row : List Tree) → TellsRow known r body row → ⊥) → showing ≡ by_bytes r → IsShownBy known r showing

-- the text shows the resource
abbrev pub Shown : Known → Resource → List ℕ → Type 0
Shown known r text = (showing : Showing) × IsShownBy known r showing × (text ≡ showing_text known.is_macro showing)
