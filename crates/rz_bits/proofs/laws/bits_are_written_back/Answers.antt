use Rattle.rz_bits.proofs.Bytes.{bits_of-bytes_of}
use Rattle.rz_bits.proofs.laws.bits_are_written_back.Goals as goal

pub returns : goal.returns
returns c = bits_of-bytes_of
