use Rattle.rz_types.proofs.Apart.{keys_apart}
use Rattle.rz_types.proofs.laws.keys_stand_apart.Goals as goal

pub returns : goal.returns
returns c = keys_apart
