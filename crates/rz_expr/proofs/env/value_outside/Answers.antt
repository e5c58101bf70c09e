use Rattle.std.proofs.Common.{rules, w32, Some, ap, sym, ◌∙◌}
use Rattle.std.specs.Int.RustNames.{FitsSigned}
use Rattle.std.proofs.lemmas.Int.{to_z-of_z}
use mir.Syntax.{w128}
use Rattle.rz_expr.specs.Constant.{predefined_key}
use Rattle.rz_expr.specs.NameKey.{key_of}
use Rattle.rz_expr.specs.declared.env.Key.{Key}
use Rattle.rz_expr.proofs.Cases.{same_value}
use Rattle.rz_expr.proofs.env.value_outside.Goals as goal

pub returns-in-Some : goal.returns-in-Some
returns-in-Some c =
    let fits : FitsSigned w128 c.from.result = search rules in
    let small : FitsSigned w32 c.in-Some.value = search rules in
    ap Some (to_z-of_z w128 c.from.result fits ∙ c.from.ensures ∙ to_z-of_z w32 c.in-Some.value small)
    ∙ sym c.in-Some.is ∙ c.predefined.ensures ∙ same_value c.in-Place.name.now.bytes
    ∙ ap (λ (key : Key). predefined_key (key_of key)) (sym c.in-Place.is)

pub returns-in-None : goal.returns-in-None
returns-in-None c =
    sym c.in-None.is ∙ c.predefined.ensures ∙ same_value c.in-Place.name.now.bytes ∙ ap (λ (key : Key). predefined_key (key_of key)) (sym c.in-Place.is)
