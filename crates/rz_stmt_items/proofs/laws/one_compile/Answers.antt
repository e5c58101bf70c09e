use Rattle.rz_stmt_items.proofs.OneCompile.{one_compiled}
use Rattle.rz_stmt_items.proofs.laws.one_compile.Goals as goal

pub returns : goal.returns
returns c = one_compiled c.one_expression.ensures.expression
