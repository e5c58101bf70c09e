use Rattle.rz_types_table.proofs.Places.{stay_different}
use Rattle.rz_types_table.proofs.laws.places_stay_different.Goals as goal

pub returns : goal.returns
returns c = stay_different
