use Rattle.std.proofs.Common.{rules, ℤ, sym, subst, w32, SFits}
use Rattle.std.specs.declared.result.Result.{Result}
use Rattle.std.proofs.lemmas.Int.{to_z-of_z}
use Rattle.rz_core.specs.Stop.{◌>>=◌, Gives, seen}
use Rattle.rz_core.specs.declared.fault.Fault.{Fault}
use Rattle.rz_stmt_type.specs.Constants.{key_value, number_of_width}
use Rattle.rz_stmt_fields.specs.Form.{number_form}
use Rattle.rz_types_fields.specs.Field.{plain_number}
use Rattle.rz_stmt_type.proofs.constants.value_number.Goals as goal

pub returns-in-Ok-value_key : goal.returns-in-Ok-value_key
returns-in-Ok-value_key c =
    let fits : SFits w32 c.in-Ok.width = search rules in
    let number = number_form c.args.number in
    subst (λ (r : Result ℤ Fault). Gives (r >>= (λ width. key_value c.args.mark number.key number.fixed >>= (λ done. number_of_width c.args.mark number width)))
    (seen plain_number c.make_number.result)) (sym c.in-Ok.ensures)
    (subst (λ (r : Result (Unit {0}) Fault). Gives (r >>= (λ done. number_of_width c.args.mark number c.in-Ok.width)) (seen plain_number c.make_number.result))
    (sym c.in-Ok-value_key.ensures)
    (subst (λ (width : ℤ). Gives (number_of_width c.args.mark number width) (seen plain_number c.make_number.result)) (to_z-of_z w32 c.in-Ok.width fits) c.make_number.ensures))
