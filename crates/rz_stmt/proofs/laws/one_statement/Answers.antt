use Rattle.rz_stmt.proofs.OneStatement.{one_answer}
use Rattle.rz_stmt.proofs.laws.one_statement.Goals as goal

pub returns : goal.returns
returns c =
    one_answer c.keywords_are_spelled.ensures.keyword c.one_data.ensures c.one_list.ensures.one c.one_compile.ensures c.one_declare.ensures c.one_list.ensures.begins
