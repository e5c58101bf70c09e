use Rattle.rz_bridge_files.proofs.DataFile.{one_name}
use Rattle.rz_bridge_files.proofs.form_laws.one_data_file.Goals as goal

pub returns : goal.returns
returns c = one_name
