use Rattle.rz_pre_laws.proofs.EveryAct.{every_line_acts}
use Rattle.rz_pre_laws.proofs.laws.every_line_acts.Goals as goal

pub returns : goal.returns
returns c = every_line_acts c.every_line_is_cut.ensures c.one_expression.ensures.expression c.expressions_are_decided.ensures.some
