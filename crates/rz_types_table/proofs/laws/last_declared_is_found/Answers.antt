use Rattle.rz_types_table.proofs.Places.{last_found}
use Rattle.rz_types_table.proofs.laws.last_declared_is_found.Goals as goal

pub returns : goal.returns
returns c table one id held none = last_found table one id none held
