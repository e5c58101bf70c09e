use Rattle.rz_set.proofs.Finds.{others_stay}
use Rattle.rz_set.proofs.laws.others_stay_in_order.Goals as goal

pub returns : goal.returns
returns c = others_stay
