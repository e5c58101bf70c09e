use Rattle.rz_bits.proofs.Bytes.{bytes_of-bits_of}
use Rattle.rz_bits.proofs.laws.bytes_are_read_back.Goals as goal

pub returns : goal.returns
returns c = bytes_of-bits_of
