use Rattle.rz_catalog.proofs.Staying.{stay}
use Rattle.rz_catalog.proofs.stays.resources_stay.Goals as goal

pub returns : goal.returns
returns c types moment over list new entries = stay types moment over list new entries
