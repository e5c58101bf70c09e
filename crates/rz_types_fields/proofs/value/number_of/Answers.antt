use Rattle.std.proofs.Common.{List, subst}
use Rattle.rz_core.specs.Stop.{Gives}
use Rattle.rz_expr.specs.Term.{term_of}
use Rattle.rz_types_fields.specs.Value.{symbol_number_of}
use Rattle.rz_types_fields.specs.declared.field.Symbol.{Symbol}
use Rattle.rz_types_fields.proofs.Arithmetic.{number_sound}
use Rattle.rz_types_fields.proofs.value.number_of.Goals as goal

pub returns-clause-arithmetic : goal.returns-clause-arithmetic
returns-clause-arithmetic c = λ is.
    number_sound c.args.place c.args.facts.now (term_of c.args.expr.now) c.symbol_number_of-value.result is
    (subst (λ (symbols : List Symbol). Gives (symbol_number_of c.args.place c.args.facts.now symbols (term_of c.args.expr.now)) c.symbol_number_of-value.result) c.new-none.ensures
    c.symbol_number_of-value.ensures.value)
