use Rattle.rz_bits.proofs.Numbers.{number_of-number_bits}
use Rattle.rz_bits.proofs.laws.numbers_are_read_back.Goals as goal

pub returns : goal.returns
returns c = number_of-number_bits
