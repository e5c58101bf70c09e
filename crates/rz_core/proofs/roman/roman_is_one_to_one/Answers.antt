use Rattle.rz_core.proofs.Table.{one_to_one}
use Rattle.rz_core.proofs.roman.roman_is_one_to_one.Goals as goal

pub returns : goal.returns
returns c = one_to_one
