use Rattle.rz_stmt_type.proofs.Shaped.{declare_shaped}
use Rattle.rz_stmt_type.proofs.laws.declarations_are_shaped.Goals as goal

pub returns : goal.returns
returns c = declare_shaped
