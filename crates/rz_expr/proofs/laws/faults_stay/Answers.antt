use Rattle.rz_expr.proofs.FaultsStay.{fault_stays}
use Rattle.rz_expr.proofs.laws.faults_stay.Goals as goal

pub returns : goal.returns
returns c = fault_stays
