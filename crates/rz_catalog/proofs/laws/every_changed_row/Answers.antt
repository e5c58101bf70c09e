use Rattle.rz_catalog.proofs.Changed.{every_changed}
use Rattle.rz_catalog.proofs.laws.every_changed_row.Goals as goal

pub returns : goal.returns
returns c = every_changed
