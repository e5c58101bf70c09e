use Rattle.rz_bits.proofs.Bytes.{bytes_of-bits_of}
use Rattle.rz_bits.proofs.tail.are_read_back.Goals as goal

pub returns : goal.returns
returns c = bytes_of-bits_of c.args.bytes.now (λ k. (c.type_inv.bytes k).fits)
