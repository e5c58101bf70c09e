use Rattle.rz_set.proofs.Finds.{found_none, found_some}
use Rattle.rz_set.proofs.laws.found_has_the_key.Goals as goal

pub returns-clause-some : goal.returns-clause-some
returns-clause-some c = found_some

pub returns-clause-none : goal.returns-clause-none
returns-clause-none c = found_none
