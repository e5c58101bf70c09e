use Rattle.rz_catalog.proofs.Changed.{one_changed}
use Rattle.rz_catalog.proofs.laws.one_changed_row.Goals as goal

pub returns : goal.returns
returns c = one_changed
