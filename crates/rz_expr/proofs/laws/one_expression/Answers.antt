use Rattle.rz_expr.proofs.OneExpression.{one_expression, one_longest, not_none}
use Rattle.rz_expr.proofs.laws.one_expression.Goals as goal

pub returns-clause-expression : goal.returns-clause-expression
returns-clause-expression c = one_expression

pub returns-clause-longest : goal.returns-clause-longest
returns-clause-longest c = one_longest

pub returns-clause-not_none : goal.returns-clause-not_none
returns-clause-not_none c = not_none
