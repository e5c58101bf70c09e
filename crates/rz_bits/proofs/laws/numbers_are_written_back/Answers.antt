use Rattle.rz_bits.proofs.Numbers.{number_bits-number_of}
use Rattle.rz_bits.proofs.laws.numbers_are_written_back.Goals as goal

pub returns : goal.returns
returns c = number_bits-number_of
