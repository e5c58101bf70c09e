use Rattle.rz_catalog.proofs.Own.{own_catalogue}
use Rattle.rz_catalog.proofs.laws.own_catalogue.Goals as goal

pub returns : goal.returns
returns c types moment over list entries keys are = own_catalogue types moment over list entries keys are
