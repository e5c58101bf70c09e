-- What the bytes of a resource tell under the declaration of its type. (Inside Macintosh: More Macintosh Toolbox, Resource
-- Manager; MPW Rez.)
use Rattle.std.specs.Prelude.{◌≡◌, ℕ, true, List, Option, Some, None}
use Rattle.rz_core.specs.declared.facts.Facts.{Facts}
use Rattle.rz_core.specs.declared.moment.Moment.{Moment}
use Rattle.rz_core.specs.declared.resource.Resource.{Resource}
use Rattle.rz_types_fields.specs.declared.tree.Tree.{Tree}
use Rattle.rz_types_fields.specs.Spells.{SpellsPlainly}
use Rattle.rz_types.specs.Field.{PlainBody}
use Rattle.rz_types.specs.Readable.{is_readable}
use Rattle.rz_types.specs.Rules.{keeps_rules}
use Rattle.rz_types.specs.Shape.{is_well_shaped}
use Rattle.rz_unlay.specs.declared.resource.Reading.{Reading}
use Rattle.rz_unlay.specs.declared.resource.Reading.TheVariants as readings

-- bytes tell a row: the declaration can be read, and the row spells them plainly
abbrev pub IsTold : Facts → PlainBody → List ℕ → List Tree → Type 0
IsTold known body bytes row = (is_readable body ≡ true) × SpellsPlainly known body row bytes

-- the row of an answer, where it has one
abbrev pub row_in : Reading → Option (List Tree)
row_in (readings.Tree row) = Some row
row_in readings.NoTree = None

-- What is known of a resource at a moment.
abbrev pub facts_of : Moment → Resource → Facts
facts_of moment r = record { kind = r.kind; id = r.id; name = r.name; attr = r.attr; moment = moment }

-- Bytes tell a row as a tree where fields may be declared for them: these fields are declared, they are a template, and
-- the bytes tell the row of them.
pub record IsTree (fields : Option PlainBody) (known : Facts) (bytes : List ℕ) (body : PlainBody) (row : List Tree) : Type 0 where
  pub declared : fields ≡ Some body
  pub shaped : is_well_shaped body ≡ true
  pub kept : keeps_rules body ≡ true
  pub told : IsTold known body bytes row
