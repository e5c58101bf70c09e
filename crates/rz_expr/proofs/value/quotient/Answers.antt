use Rattle.std.proofs.Common.{arith}
use Rattle.std.proofs.lemmas.Int.{to_z-of_z}
use Rattle.rz_expr.proofs.Wrapped.{div_wraps}
use Rattle.rz_expr.proofs.value.quotient.Goals as goal

pub returns : goal.returns
returns c = grind (arith, to_z-of_z, div_wraps)
