use Rattle.std.proofs.Common.{ℤ, rules, SFits, sym, subst, w32}
use Rattle.std.specs.declared.result.Result.{Result}
use Rattle.std.proofs.lemmas.Int.{to_z-of_z}
use Rattle.rz_core.specs.Stop.{◌>>=◌, Gives}
use Rattle.rz_core.specs.declared.fault.Fault.{Fault}
use Rattle.rz_stmt_items.specs.Matched.{in_range}
use Rattle.rz_types.specs.Field.{plain_number}
use Rattle.rz_stmt_items.proofs.number.expression_value.Goals as goal

pub returns : goal.returns
returns c =
    let number = plain_number c.args.field.now in
    let fits : SFits w32 c.in_ok-value.value = search rules in
    subst (λ (r : Result ℤ Fault). Gives (r >>= in_range number c.args.mark) c.in_range.result) (sym c.in_ok-value.ensures.value)
    (subst (λ (v : ℤ). Gives (in_range number c.args.mark v) c.in_range.result) (to_z-of_z w32 c.in_ok-value.value fits) c.in_range.ensures)
