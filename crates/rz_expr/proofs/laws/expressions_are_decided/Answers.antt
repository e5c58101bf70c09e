use Rattle.rz_expr.proofs.EveryExpression.{every_expression, every_longest, one_answer_each}
use Rattle.rz_expr.proofs.laws.expressions_are_decided.Goals as goal

pub returns-clause-some : goal.returns-clause-some
returns-clause-some c = every_expression

pub returns-clause-one : goal.returns-clause-one
returns-clause-one c = one_answer_each

pub returns-clause-longest : goal.returns-clause-longest
returns-clause-longest c = every_longest
