use Rattle.rz_bridge_files.proofs.DataFile.{one_parting}
use Rattle.rz_bridge_files.proofs.form_laws.one_parting.Goals as goal

pub returns : goal.returns
returns c = one_parting
