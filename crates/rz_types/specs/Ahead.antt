-- The labels at a known distance from a field, as notes. (MPW Rez.)
use Rattle.std.specs.Prelude.{◌≡◌, ℕ, ◌+◌, ◌-◌, true, ◌||◌, if◌then◌else◌, List, length, take, Option, Some, None}
use Rattle.std.specs.Option.{is_some}
use Rattle.rz_core.specs.declared.resource.Word.{Word}
use Rattle.rz_expr.specs.Environment.{Key}
use Rattle.rz_types_fields.specs.Field.{field_and, no_fields, Label, PlainBody, PlainField}
use Rattle.rz_types_fields.specs.Known.{noted}
use Rattle.rz_types_fields.specs.Passed.{is_label, is_measured, is_near}
use Rattle.rz_types_fields.specs.FlatRows.{label_count}
use Rattle.rz_types_fields.specs.declared.names.Note.{Note}

-- the name of a label
abbrev pub label_of : PlainField → Option Word
label_of (Label name) = Some name
label_of field = None

-- how many fields are measured before the first that isn't
abbrev pub measured : PlainBody → ℕ
measured no_fields = 0
measured (field_and field fields) = if is_measured field then measured fields + 1 else 0

-- the notes are those of the labels that are near at the first of these fields
abbrev pub AreNear : PlainBody → List Note → Type 0
AreNear fields notes = (key : Key) → is_some (noted None notes key) ≡ is_near fields key

-- they are also at each field after a measured one, the last note being that of the first label
abbrev pub StayNear : PlainBody → List Note → Type 0
StayNear no_fields notes = Unit {0}
StayNear (field_and field fields) notes =
    is_measured field ≡ true → AreNear fields (take (length notes - label_count field) notes) × StayNear fields (take (length notes - label_count field) notes)

-- a note was added for a field that is a label
pub record IsNearer (field : PlainField) (old new : List Note) : Type 0 where
  pub near : (key : Key) → is_some (noted None new key) ≡ (is_label field key || is_some (noted None old key))
  pub back : take (length new - label_count field) new ≡ old
