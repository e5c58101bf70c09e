use Rattle.rz_stmt.proofs.EveryStatement.{every_statement}
use Rattle.rz_stmt.proofs.laws.every_statement_is_parsed.Goals as goal

pub returns : goal.returns
returns c =
    every_statement c.data_statements_are_decided.ensures.statement c.list_statements_are_decided.ensures c.resource_statements_are_decided.ensures
    c.type_statements_are_decided.ensures
