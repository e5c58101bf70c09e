use Rattle.rz_bridge_files.proofs.EveryPath.{every_data_file}
use Rattle.rz_bridge_files.proofs.form_laws.every_header_has_a_data_file.Goals as goal

pub returns : goal.returns
returns c = every_data_file
