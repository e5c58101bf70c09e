-- The form that each array and each label is, where it is built.
use Rattle.std.proofs.Common.{◌≡◌, List, Option, sym, ap, ◌∙◌}
use Rattle.std.specs.Global.{Box}
use Rattle.std.specs.Prelude.{box_value, option_map}
use Rattle.rz_core.specs.declared.resource.Word.{Word}
use Rattle.rz_expr.specs.Term.{term_of}
use Rattle.rz_expr.specs.declared.expr.Expr.{Expr}
use Rattle.rz_stmt_fields.specs.Form.{array_form, array_step, body_form, case_step, field_form, field_step, Array, CaseForm, FieldForm, Label}
use Rattle.rz_stmt_fields.specs.declared.form.ArrayExpr.{ArrayExpr}
use Rattle.rz_stmt_fields.specs.declared.form.FieldExpr.{FieldExpr}
use Rattle.rz_stmt_fields.specs.declared.form.FieldExpr.TheFolds.{fold-roll-ArrayExpr, fold-roll-FieldExpr}
use Rattle.rz_stmt_fields.specs.declared.form.FieldExpr.TheOpen.{FieldExpr-F}
use Rattle.rz_stmt_fields.specs.declared.form.FieldExpr.TheVariants as fields
use Rattle.rz_stmt_fields.specs.declared.form.FieldExpr.TheVariants.{rolls-Array, rolls-Label}
use Rattle.rz_stmt_fields.specs.declared.form.FieldExpr.TheViews.{roll-ArrayExpr}

pub array_is : (boxed : Box ArrayExpr) (name : Option Word) (count : Option Expr) (row : List FieldExpr) → box_value boxed ≡ roll-ArrayExpr (record { name = name; count = count; row = row })
    → field_form (fields.Array boxed) ≡ Array name (option_map term_of count) (body_form row)
array_is boxed name count row is =
    ap field_form (sym (rolls-Array boxed))
    ∙ fold-roll-FieldExpr FieldForm FieldForm CaseForm field_step array_step case_step (FieldExpr-F.Array boxed)
    ∙ ap array_form is
    ∙ fold-roll-ArrayExpr FieldForm FieldForm CaseForm field_step array_step case_step (record { name = name; count = count; row = row })

pub label_is : (name : Word) → field_form (fields.Label name) ≡ Label name
label_is name = ap field_form (sym (rolls-Label name)) ∙ fold-roll-FieldExpr FieldForm FieldForm CaseForm field_step array_step case_step (FieldExpr-F.Label name)
