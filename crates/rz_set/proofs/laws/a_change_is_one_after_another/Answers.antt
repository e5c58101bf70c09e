use Rattle.rz_set.proofs.Sequence.{one_after_another}
use Rattle.rz_set.proofs.laws.a_change_is_one_after_another.Goals as goal

pub returns : goal.returns
returns c = one_after_another
