use Rattle.rz_stmt_lists.proofs.EveryList.{every_list}
use Rattle.rz_stmt_lists.proofs.laws.list_statements_are_decided.Goals as goal

pub returns : goal.returns
returns c =
    every_list c.one_expression.ensures.expression c.partings_are_decided.ensures.within c.texts_are_decided.ensures.text c.data_statements_are_decided.ensures.head
