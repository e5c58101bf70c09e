use Rattle.rz_catalog.proofs.Bytes.{stored}
use Rattle.rz_catalog.proofs.laws.catalogues_are_stored.Goals as goal

pub returns : goal.returns
returns c types moment list entries = stored types moment list entries
