use Rattle.rz_bridge_files.proofs.Once.{one_file}
use Rattle.rz_bridge_files.proofs.laws.one_named_file.Goals as goal

pub returns : goal.returns
returns c = one_file c.one_taken_name.ensures
