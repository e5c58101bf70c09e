use Rattle.rz_stmt_items.proofs.Within.{compile_within}
use Rattle.rz_stmt_items.proofs.laws.items_are_within.Goals as goal

pub returns : goal.returns
returns c = compile_within
