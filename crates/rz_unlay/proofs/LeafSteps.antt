-- What each kind of field is read as.
use Rattle.std.proofs.Common.{◌≡◌, ℕ, ◌*◌, ◌||◌, Bool, false, ℤ, List, Option, Some, None, IfOk, IfSome, Result, Ok, Err, sym, ap, ◌∙◌}
use Rattle.std.specs.Global.{Box}
use Rattle.std.specs.Prelude.{nat_abs}
use Rattle.rz_core.specs.declared.resource.Word.{Word}
use Rattle.rz_core.specs.declared.stop.NoMemory.{NoMemory}
use Rattle.rz_bits.specs.BitBuf.{missing}
use Rattle.rz_expr.specs.Environment.{Environment, Key}
use Rattle.rz_types_fields.specs.declared.field.ArrayField.{ArrayField}
use Rattle.rz_types_fields.specs.declared.field.Case.{Case}
use Rattle.rz_types_fields.specs.declared.field.Field.{Field}
use Rattle.rz_types_fields.specs.declared.field.Field.TheFolds.{fold-roll-Field}
use Rattle.rz_types_fields.specs.declared.field.Field.TheOpen.{Field-F}
use Rattle.rz_types_fields.specs.declared.field.Field.TheVariants as fields
use Rattle.rz_types_fields.specs.declared.field.Field.TheVariants.{rolls-Align, rolls-Array, rolls-Fill, rolls-Label, rolls-Num, rolls-Points, rolls-Switch, rolls-Text}
use Rattle.rz_types_fields.specs.declared.field.NumField.{NumField}
use Rattle.rz_types_fields.specs.declared.field.PointField.{PointField}
use Rattle.rz_types_fields.specs.declared.field.TextField.{TextField}
use Rattle.rz_types_fields.specs.declared.hints.CaseHints.{CaseHints}
use Rattle.rz_types_fields.specs.Field.{array_step, case_step, field_step, plain_array, plain_cases, plain_field, plain_number, plain_points, plain_text, Align, Fill, Label, Number, PlainCase, PlainField, Points, Switch, Text}
use Rattle.rz_types_fields.specs.Passed.{is_label, Names}
use Rattle.rz_types_fields.specs.Sees.{Late}
use Rattle.rz_unlay.specs.Pieces.{field_of_pieces, met_past, text_step}
use Rattle.rz_unlay_pieces.specs.Pieces.{label_step, number_step, zeros_step, Here, Step}
use Rattle.rz_unlay_pieces.specs.declared.came.Came.{Came}
use Rattle.rz_unlay.proofs.PieceSteps.{align_alone, fill_alone, label_alone, number_alone, text_alone}

pub num_is : (field : Field) (number : NumField) → field ≡ fields.Num number → plain_field field ≡ Number (plain_number number)
num_is field number is = ap plain_field is ∙ ap plain_field (sym (rolls-Num number)) ∙ fold-roll-Field PlainField PlainField PlainCase field_step array_step case_step (Field-F.Num number)

pub text_is : (field : Field) (text : TextField) → field ≡ fields.Text text → plain_field field ≡ Text (plain_text text)
text_is field text is = ap plain_field is ∙ ap plain_field (sym (rolls-Text text)) ∙ fold-roll-Field PlainField PlainField PlainCase field_step array_step case_step (Field-F.Text text)

pub points_is : (field : Field) (points : PointField) → field ≡ fields.Points points → plain_field field ≡ Points (plain_points points)
points_is field points is = ap plain_field is ∙ ap plain_field (sym (rolls-Points points)) ∙ fold-roll-Field PlainField PlainField PlainCase field_step array_step case_step (Field-F.Points points)

pub fill_is : (field : Field) (unit : ℕ) (count : ℤ) → field ≡ fields.Fill unit count → plain_field field ≡ Fill unit count
fill_is field unit count is = ap plain_field is ∙ ap plain_field (sym (rolls-Fill unit count)) ∙ fold-roll-Field PlainField PlainField PlainCase field_step array_step case_step (Field-F.Fill unit count)

pub align_is : (field : Field) (unit : ℕ) → field ≡ fields.Align unit → plain_field field ≡ Align unit
align_is field unit is = ap plain_field is ∙ ap plain_field (sym (rolls-Align unit)) ∙ fold-roll-Field PlainField PlainField PlainCase field_step array_step case_step (Field-F.Align unit)

pub label_is : (field : Field) (name : Word) → field ≡ fields.Label name → plain_field field ≡ Label name
label_is field name is = ap plain_field is ∙ ap plain_field (sym (rolls-Label name)) ∙ fold-roll-Field PlainField PlainField PlainCase field_step array_step case_step (Field-F.Label name)

pub array_field : (field : Field) (array : ArrayField) → field ≡ fields.Array array → plain_field field ≡ plain_array array
array_field field array is = ap plain_field is ∙ ap plain_field (sym (rolls-Array array)) ∙ fold-roll-Field PlainField PlainField PlainCase field_step array_step case_step (Field-F.Array array)

pub switch_is : (field : Field) (cases : List Case) (hints : Box CaseHints) → field ≡ fields.Switch cases hints → plain_field field ≡ Switch (plain_cases cases)
switch_is field cases hints is = ap plain_field is ∙ ap plain_field (sym (rolls-Switch cases hints)) ∙ fold-roll-Field PlainField PlainField PlainCase field_step array_step case_step (Field-F.Switch cases hints)

module _ (here : Here) (names : Environment) (at : ℕ) (late : Late) (field : Field) where
  abbrev whole : PlainField → Option Step
  whole plain = field_of_pieces here plain names at late

  pub number_piece : (number : NumField) → field ≡ fields.Num number
      → number_step here number.form number.width (plain_number number).fixed names at late ≡ whole (plain_field field)
  number_piece number is = sym (ap whole (num_is field number is) ∙ number_alone here names at late (plain_number number))

  pub text_piece : (text : TextField) → field ≡ fields.Text text → text_step here (plain_text text) names at late ≡ whole (plain_field field)
  text_piece text is = sym (ap whole (text_is field text is) ∙ text_alone here names at late (plain_text text))

  pub fill_piece : (unit : ℕ) (count : ℤ) → field ≡ fields.Fill unit count → zeros_step here.all (unit * nat_abs count) names at late ≡ whole (plain_field field)
  fill_piece unit count is = sym (ap whole (fill_is field unit count is) ∙ fill_alone here names at late unit count)

  pub align_piece : (unit : ℕ) → field ≡ fields.Align unit → zeros_step here.all (missing unit at) names at late ≡ whole (plain_field field)
  align_piece unit is = sym (ap whole (align_is field unit is) ∙ align_alone here names at late unit)

  pub points_piece : (points : PointField) → field ≡ fields.Points points → whole (Points (plain_points points)) ≡ whole (plain_field field)
  points_piece points is = sym (ap whole (points_is field points is))

  pub label_piece : (name : Word) → field ≡ fields.Label name → label_step name names at late ≡ whole (plain_field field)
  label_piece name is = sym (ap whole (label_is field name is) ∙ label_alone here names at late name)

-- After a field that is no label the same labels are met.

pub past_none : (old : Names) (field one : PlainField) → field ≡ one → ((key : Key) → is_label one key ≡ false) → old ≡ met_past field old
past_none old field one is none = λ i key. sym (ap (λ (b : Bool). b || old key) (ap (λ (f : PlainField). is_label f key) is ∙ none key)) i

pub still_met : (result : Result (Option Came) NoMemory) (old new : Names) (field one : PlainField) → field ≡ one → ((key : Key) → is_label one key ≡ false)
    → IfOk result (λ came. new ≡ old) → IfOk result (λ came. IfSome came (λ c. new ≡ met_past field old))
still_met (Ok None) old new field one is none same = tt
still_met (Ok (Some c)) old new field one is none same = same ∙ past_none old field one is none
still_met (Err fault) old new field one is none same = tt

pub still_some : (came : Option Came) (old : Names) (field one : PlainField) → field ≡ one → ((key : Key) → is_label one key ≡ false) → IfSome came (λ c. old ≡ met_past field old)
still_some None old field one is none = tt
still_some (Some c) old field one is none = past_none old field one is none

pub still_ok : {E : Type 0} (result : Result (Option Came) E) (old : Names) (field one : PlainField) → field ≡ one → ((key : Key) → is_label one key ≡ false) → IfOk result (λ came. IfSome came (λ c. old ≡ met_past field old))
still_ok (Ok came) old field one is none = still_some came old field one is none
still_ok (Err fault) old field one is none = tt
