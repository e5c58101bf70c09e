use Rattle.rz_stmt_data.proofs.OneData.{one_raw}
use Rattle.rz_stmt_data.proofs.laws.one_data.Goals as goal

pub returns : goal.returns
returns c = one_raw c.one_expression.ensures.expression
