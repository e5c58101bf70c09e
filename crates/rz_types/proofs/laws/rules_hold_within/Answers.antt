use Rattle.rz_types.proofs.Keeping.{kept_within}
use Rattle.rz_types.proofs.laws.rules_hold_within.Goals as goal

pub returns : goal.returns
returns c = kept_within
