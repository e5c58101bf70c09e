use Rattle.rz_catalog.proofs.Staying.{faults_told}
use Rattle.rz_catalog.proofs.stays.entry_faults_are_told.Goals as goal

pub returns : goal.returns
returns c types moment over list entries fault files = faults_told files types moment over list entries fault
