use Rattle.rz_lex.proofs.OneCover.{one_reading}
use Rattle.rz_lex.proofs.lines.one_list_of_lines.Goals as goal

pub returns : goal.returns
returns c = one_reading
