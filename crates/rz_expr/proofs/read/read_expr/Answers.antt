use Rattle.rz_expr.proofs.OneExpression.{only_none, only_read}
use Rattle.rz_expr.proofs.read.read_expr.Goals as goal

pub returns-clause-every : goal.returns-clause-every
returns-clause-every c = only_read c.args.tokens.now c.args.start c.read_at.result c.read_at.ensures.found

pub returns-clause-none : goal.returns-clause-none
returns-clause-none c = only_none c.args.tokens.now c.args.start c.read_at.result c.read_at.ensures.found
