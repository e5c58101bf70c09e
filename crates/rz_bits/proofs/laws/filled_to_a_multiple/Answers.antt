use Rattle.rz_bits.proofs.Held.{filled_multiple, missing_below}
use Rattle.rz_bits.proofs.laws.filled_to_a_multiple.Goals as goal

pub returns-clause-multiple : goal.returns-clause-multiple
returns-clause-multiple c = filled_multiple

pub returns-clause-fewer : goal.returns-clause-fewer
returns-clause-fewer c = missing_below
