use Rattle.rz_stmt_lists.proofs.Listed.{begins_so, one_listed}
use Rattle.rz_stmt_lists.proofs.One.{one_changed, one_deleted, one_included, one_read_in}
use Rattle.rz_stmt_lists.proofs.laws.one_list.Goals as goal

pub returns-clause-one : goal.returns-clause-one
returns-clause-one c =
    let one = c.one_expression.ensures.expression in
    one_listed c.keywords_are_spelled.ensures.keyword (one_included one) (one_read_in one) (one_changed one) (one_deleted one)

pub returns-clause-begins : goal.returns-clause-begins
returns-clause-begins c = begins_so
