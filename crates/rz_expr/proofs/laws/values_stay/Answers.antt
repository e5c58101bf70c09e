use Rattle.rz_expr.proofs.Grows.{value_grows}
use Rattle.rz_expr.proofs.laws.values_stay.Goals as goal

pub returns : goal.returns
returns c = value_grows
