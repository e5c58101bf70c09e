use Rattle.rz_set.proofs.Named.{first_alone}
use Rattle.rz_set.proofs.laws.a_name_chooses_the_first.Goals as goal

pub returns : goal.returns
returns c = first_alone
