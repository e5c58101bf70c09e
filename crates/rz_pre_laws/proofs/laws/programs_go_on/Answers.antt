use Rattle.rz_pre_laws.proofs.Onward.{both_go, both_went}
use Rattle.rz_pre_laws.proofs.laws.programs_go_on.Goals as goal

pub returns : goal.returns
returns c tool files paths names others s answer = (both_go tool files paths others names s answer, both_went tool files paths others names s answer)
