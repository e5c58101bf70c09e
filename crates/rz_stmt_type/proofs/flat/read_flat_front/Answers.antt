use Rattle.std.proofs.Common.{Option, subst}
use Rattle.std.specs.Prelude.{IfOk, option_map}
use Rattle.rz_core.specs.Decided.{Decided}
use Rattle.rz_stmt_type.specs.Flat.{IsFlatBy}
use Rattle.rz_types_fields.specs.declared.field.TextForm.{TextForm}
use Rattle.rz_stmt_fields.specs.Form.{field_form}
use Rattle.rz_stmt_fields.specs.Held.{held_front}
use Rattle.rz_stmt_type.proofs.flat.read_flat_front.Goals as goal

pub returns-in-Some : goal.returns-in-Some
returns-in-Some c =
    subst (λ (form : Option TextForm). IfOk c.read_text_field.result (λ field. Decided (IsFlatBy form (held_front c.args.front.now)) (option_map field_form field)))
    c.in-Some.ensures c.read_text_field.ensures

pub returns-in-None : goal.returns-in-None
returns-in-None c =
    subst (λ (form : Option TextForm). IfOk c.read_front.result (λ field. Decided (IsFlatBy form (held_front c.args.front.now)) (option_map field_form field)))
    c.in-None.ensures c.read_front.ensures
