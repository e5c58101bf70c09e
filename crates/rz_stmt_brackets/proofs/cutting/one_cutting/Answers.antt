use Rattle.rz_stmt_brackets.proofs.Cut.{one_way}
use Rattle.rz_stmt_brackets.proofs.cutting.one_cutting.Goals as goal

pub returns : goal.returns
returns c = one_way
