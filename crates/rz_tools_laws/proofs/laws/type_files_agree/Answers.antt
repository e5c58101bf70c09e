use Rattle.rz_tools_laws.proofs.Agreeing.{agreed}
use Rattle.rz_tools_laws.proofs.laws.type_files_agree.Goals as goal

pub returns : goal.returns
returns c = agreed
