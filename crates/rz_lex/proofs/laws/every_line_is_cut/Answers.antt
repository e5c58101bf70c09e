use Rattle.rz_lex.proofs.EveryLine.{every_line}
use Rattle.rz_lex.proofs.laws.every_line_is_cut.Goals as goal

pub returns : goal.returns
returns c = every_line
