use Rattle.std.proofs.Common.{rules, w32, Some, sym, ap, ◌∙◌}
use Rattle.std.specs.Int.RustNames.{FitsSigned}
use Rattle.std.proofs.lemmas.Int.{to_z-of_z}
use mir.Syntax.{w128}
use Rattle.rz_expr.specs.Constant.{predefined_key}
use Rattle.rz_expr.specs.NameKey.{key_of}
use Rattle.rz_expr.specs.declared.env.Key.{Key}
use Rattle.rz_types_fields.specs.Value.{symbol_key}
use Rattle.rz_types_fields.proofs.SymbolNames.{as_symbol, no_symbol}
use Rattle.rz_types_fields.proofs.value.FieldEnvEnv.give.Goals as goal

pub returns-in-Some : goal.returns-in-Some
returns-in-Some c =
    let symbols = c.args.self.now.symbols.now in
    let fits : FitsSigned w128 c.from.result = search rules in
    let small : FitsSigned w32 c.in-Some.value = search rules in
    ap Some (to_z-of_z w128 c.from.result fits ∙ c.from.ensures ∙ to_z-of_z w32 c.in-Some.value small)
    ∙ as_symbol symbols c.in-Place.name.now.bytes c.in-Some.value (sym c.value_of.ensures ∙ c.in-Some.is)
    ∙ ap (λ (key : Key). symbol_key symbols (key_of key)) (sym c.in-Place.is)

pub returns-in-None : goal.returns-in-None
returns-in-None c =
    let symbols = c.args.self.now.symbols.now in
    c.value_outside.ensures ∙ ap (λ (key : Key). predefined_key (key_of key)) c.in-Place.is
    ∙ no_symbol symbols c.in-Place.name.now.bytes (sym c.value_of.ensures ∙ c.in-None.is)
    ∙ ap (λ (key : Key). symbol_key symbols (key_of key)) (sym c.in-Place.is)
