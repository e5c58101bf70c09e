use Rattle.rz_types_format.proofs.Texts.{counted}
use Rattle.rz_types_format.proofs.laws.one_argument_a_conversion.Goals as goal

pub returns : goal.returns
returns c = counted
