-- How a resource is shown under what type files declare. (MPW DeRez.)
use Rattle.std.specs.Prelude.{◌≡◌, false, List, Some}
use Rattle.rz_core.specs.declared.resource.Resource.{Resource}
use Rattle.rz_show.specs.Shown.{row_uses}
use Rattle.rz_types.specs.Field.{PlainBody}
use Rattle.rz_types_fields.specs.declared.tree.Tree.{Tree}
use Rattle.rz_tools_text.specs.Shown.{Known}
use Rattle.rz_types_table.specs.Table.{declared_for}
use Rattle.rz_unlay.specs.Reading.{facts_of, IsTold}

-- The bytes of a resource tell this row of the fields that are declared for it, and no case that the row chooses has
-- the name of a macro.
pub record TellsDeclared (known : Known) (r : Resource) (body : PlainBody) (row : List Tree) : Type 0 where
  pub declared : declared_for known.types r ≡ Some body
  pub told : IsTold (facts_of known.moment r) body r.bytes row
  pub bare : row_uses known.is_macro body row ≡ false
