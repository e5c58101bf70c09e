use Rattle.rz_bridge_files.proofs.Once.{one_name}
use Rattle.rz_bridge_files.proofs.laws.one_taken_name.Goals as goal

pub returns : goal.returns
returns c = one_name c.one_parting.ensures c.one_text.ensures.text
