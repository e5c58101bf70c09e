-- What can be shown so that it is read again.
use Rattle.std.specs.Prelude.{◌≡◌, ℕ, ◌<◌, ◌^◌, FitsSigned, Bool, true, false, List}
use Rattle.std.specs.Int.{w16}
use Rattle.rz_core.specs.declared.resource.Resource.{Resource}
use Rattle.rz_types_fields.specs.declared.tree.Tree.{Tree}
use Rattle.rz_lex.specs.Printed.{AreBytes}
use Rattle.rz_show.specs.Printable.{AreOfBytes}
use Rattle.rz_show.specs.Showing.{by_bytes, by_row, Showing}
use Rattle.rz_show.specs.Shown.{row_uses}
use Rattle.rz_show_laws.specs.Short.{AreShortTexts}
use Rattle.rz_types_fields.specs.Row.{IsRow}
use Rattle.rz_types.specs.Field.{PlainBody}
use Rattle.rz_types.specs.Rules.{keeps_rules}
use Rattle.rz_types.specs.Shape.{is_well_shaped}

-- what every resource has: a type of 32 bits, an id of 16, bytes in its name and its contents, and an attribute byte
pub record IsStored (r : Resource) : Type 0 where
  pub code : r.kind.code < 2 ^ 32
  pub id : FitsSigned w16 r.id
  pub name : AreBytes r.name
  pub attr : r.attr < 256
  pub bytes : AreBytes r.bytes

-- a row of fields that are well shaped and keep the rules; its texts are bytes, none without a size is longer than its
-- length can say, and no case that it chooses has the name of a live macro
pub record IsShowable (hidden : List ℕ → Bool) (body : PlainBody) (row : List Tree) : Type 0 where
  pub shaped : is_well_shaped body ≡ true
  pub kept : keeps_rules body ≡ true
  pub is : IsRow body row
  pub bytes : AreOfBytes body row
  pub short : AreShortTexts body row
  pub uses : row_uses hidden body row ≡ false

abbrev pub CanBeShown : (hidden : List ℕ → Bool) → Showing → Type 0
CanBeShown hidden (by_bytes resource) = IsStored resource
CanBeShown hidden (by_row resource body row) = IsStored resource × IsShowable hidden body row
