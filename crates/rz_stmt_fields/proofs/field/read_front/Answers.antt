use Rattle.std.proofs.Common.{sym, subst}
use Rattle.std.specs.Prelude.{IfOk, option_map}
use Rattle.rz_core.specs.Decided.{Decided}
use Rattle.rz_stmt_fields.specs.FieldForm.{IsFieldOf}
use Rattle.rz_stmt_fields.specs.Form.{field_form}
use Rattle.rz_stmt_fields.specs.Held.{held_front}
use Rattle.rz_stmt_fields.specs.declared.field_word.FieldWord.{FieldWord}
use Rattle.rz_stmt_fields.proofs.field.read_front.Goals as goal

pub returns-in-Number : goal.returns-in-Number
returns-in-Number c =
    subst (λ (word : FieldWord). IfOk c.read_number_field.result (λ field. Decided (IsFieldOf word (held_front c.args.front.now)) (option_map field_form field)))
    (sym c.in-Number.is) c.read_number_field.ensures

pub returns-in-Text : goal.returns-in-Text
returns-in-Text c field is = subst (λ (word : FieldWord). IsFieldOf word (held_front c.args.front.now) field) c.in-Text.is is

pub returns-in-Points : goal.returns-in-Points
returns-in-Points c =
    subst (λ (word : FieldWord). IfOk c.read_points_field.result (λ field. Decided (IsFieldOf word (held_front c.args.front.now)) (option_map field_form field)))
    (sym c.in-Points.is) c.read_points_field.ensures

pub returns-in-Align : goal.returns-in-Align
returns-in-Align c =
    subst (λ (word : FieldWord). Decided (IsFieldOf word (held_front c.args.front.now)) (option_map field_form c.read_align_field.result))
    (sym c.in-Align.is) c.read_align_field.ensures
