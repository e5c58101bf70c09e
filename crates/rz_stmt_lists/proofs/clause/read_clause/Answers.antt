use Rattle.rz_core.proofs.Tests.{none_some}
use Rattle.rz_stmt_lists.proofs.Clauses.{maybe_behind}
use Rattle.rz_stmt_lists.proofs.clause.read_clause.Goals as goal

pub returns-in_default : goal.returns-in_default
returns-in_default c clause is = c.in_default.ensures _ is.typed

pub returns-in-None : goal.returns-in-None
returns-in-None c clause is =
    none_some (clause.inside, clause.rest) (c.in-None.ensures.every (clause.inside, clause.rest) (maybe_behind c.args.keyword c.args.tokens.now clause is _ c.in-Some.ensures))
