use Rattle.rz_bridge_files.proofs.EveryPath.{every_parting}
use Rattle.rz_bridge_files.proofs.form_laws.every_path_is_parted.Goals as goal

pub returns : goal.returns
returns c = every_parting
