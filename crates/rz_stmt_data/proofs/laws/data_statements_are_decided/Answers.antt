use Rattle.rz_stmt_data.proofs.EveryData.{every_raw}
use Rattle.rz_stmt_data.proofs.EveryHead.{every_head_for}
use Rattle.rz_stmt_data.proofs.laws.data_statements_are_decided.Goals as goal

pub returns-clause-head : goal.returns-clause-head
returns-clause-head c = every_head_for c.one_expression.ensures.expression c.expressions_are_decided.ensures.some c.partings_are_decided.ensures.within

pub returns-clause-statement : goal.returns-clause-statement
returns-clause-statement c = every_raw c.one_expression.ensures.expression c.expressions_are_decided.ensures.some c.partings_are_decided.ensures.within
