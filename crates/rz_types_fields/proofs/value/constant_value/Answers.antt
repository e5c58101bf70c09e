use Rattle.rz_expr.specs.Term.{term_of}
use Rattle.rz_types_fields.proofs.Arithmetic.{constant_sound}
use Rattle.rz_types_fields.proofs.value.constant_value.Goals as goal

pub returns-clause-arithmetic : goal.returns-clause-arithmetic
returns-clause-arithmetic c = λ is.
    constant_sound c.args.place (term_of c.args.expr.now) c.value_seen.result is c.value_seen.ensures.value
