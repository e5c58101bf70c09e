use Rattle.rz_set.proofs.Finds.{others_found}
use Rattle.rz_set.proofs.laws.others_are_found_as_before.Goals as goal

pub returns : goal.returns
returns c = others_found
