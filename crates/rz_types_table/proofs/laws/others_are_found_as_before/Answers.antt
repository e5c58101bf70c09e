use Rattle.rz_types_table.proofs.Places.{others}
use Rattle.rz_types_table.proofs.laws.others_are_found_as_before.Goals as goal

pub returns : goal.returns
returns c = others
