use Rattle.rz_tools_answer.proofs.Warnings.{no_warning}
use Rattle.rz_tools_answer.proofs.laws.no_warning_refuses.Goals as goal

pub returns : goal.returns
returns c = no_warning
