-- A step that is refused, and the plain field that an array is.
use Rattle.std.proofs.Common.{◌≡◌, Result, Err, sym, ap, ◌∙◌}
use Rattle.rz_core.specs.Stop.{◌>>=◌, Gives, fault_seen}
use Rattle.rz_core.specs.declared.stop.Stop.{Stop}
use Rattle.rz_core.specs.declared.stop.Stop.TheVariants.{NoMemory, Refused}
use Rattle.rz_layout.specs.Fault.{refusal_of}
use Rattle.rz_layout.specs.declared.fault.LayFault.{LayFault}
use Rattle.rz_types_fields.proofs.Bodies.{array_is}
use Rattle.rz_types_fields.specs.declared.field.ArrayField.{ArrayField}
use Rattle.rz_types_fields.specs.declared.field.Field.{Field}
use Rattle.rz_types_fields.specs.declared.field.TextField.{TextField}
use Rattle.rz_types_fields.specs.declared.field.Field.TheFolds.{fold-roll-Field}
use Rattle.rz_types_fields.specs.declared.field.Field.TheOpen.{Field-F}
use Rattle.rz_types_fields.specs.declared.field.Field.TheVariants as fields
use Rattle.rz_types_fields.specs.declared.field.Field.TheVariants.{rolls-Array, rolls-Text}
use Rattle.rz_types_fields.specs.declared.field.Field.TheViews.{out-ArrayField}
use Rattle.rz_types_fields.specs.Laid.{Refusal}
use Rattle.rz_types_fields.specs.Field.{array_step, case_step, field_step, plain_body, plain_field, plain_text, Array, PlainCase, PlainField, Text}

pub refused_then : {X Y : Type 0} (first : Result X Refusal) (next : X → Result Y Refusal) (stop : Stop LayFault) → Gives first (fault_seen {X = X} refusal_of (Err stop))
    → Gives (first >>= next) (fault_seen {X = Y} refusal_of (Err stop))
refused_then first next NoMemory gives = tt
refused_then first next (Refused fault) gives = ap (λ (r : Result _ Refusal). r >>= next) gives

-- the plain field that an array is
pub array_kind : (field : Field) (array : ArrayField) → field ≡ fields.Array array → plain_field field ≡ Array (out-ArrayField array).name (out-ArrayField array).count (plain_body (out-ArrayField array).row)
array_kind field array is =
    ap plain_field is ∙ ap plain_field (sym (rolls-Array array)) ∙ fold-roll-Field PlainField PlainField PlainCase field_step array_step case_step (Field-F.Array array)
    ∙ array_is array

-- the plain field that a text is
pub text_kind : (field : Field) (text : TextField) → field ≡ fields.Text text → plain_field field ≡ Text (plain_text text)
text_kind field text is =
    ap plain_field is ∙ ap plain_field (sym (rolls-Text text)) ∙ fold-roll-Field PlainField PlainField PlainCase field_step array_step case_step (Field-F.Text text)
