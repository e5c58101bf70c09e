use Rattle.std.proofs.Common.{rules, ℤ, Option, Some, sym, ap, subst, ◌∙◌, w32, SFits}
use Rattle.std.specs.Prelude.{IfOk, option_map}
use Rattle.std.proofs.lemmas.Int.{to_z-of_z}
use Rattle.rz_core.specs.Decided.{Decided}
use Rattle.rz_stmt_fields.specs.Form.{number_form}
use Rattle.rz_stmt_fields.specs.Held.{held_front}
use Rattle.rz_stmt_fields.specs.NumberField.{IsNumberBy}
use Rattle.rz_stmt_fields.proofs.number_field.read_number.Goals as goal

pub returns-in-Some : goal.returns-in-Some
returns-in-Some c =
    let fits : SFits w32 c.in-Some.width = search rules in
    subst (λ (width : Option ℤ). IfOk c.read_of_width.result (λ number. Decided (IsNumberBy width c.args.form (held_front c.args.front.now)) (option_map number_form number)))
    (ap (λ (z : ℤ). Some z) (to_z-of_z w32 c.in-Some.width fits) ∙ sym c.in-Some.is ∙ c.own_width.ensures) c.read_of_width.ensures

pub returns-in-None : goal.returns-in-None
returns-in-None c =
    subst (λ (width : Option ℤ). IfOk c.read_bits.result (λ number. Decided (IsNumberBy width c.args.form (held_front c.args.front.now)) (option_map number_form number)))
    (sym c.in-None.is ∙ c.own_width.ensures) c.read_bits.ensures
