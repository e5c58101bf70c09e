use Rattle.std.proofs.Common.{length, ap, arith}
use Rattle.rz_bits.proofs.Held.{held_size}
use Rattle.rz_bits.proofs.bit_buf.BitBuf.at.Goals as goal

pub number_in-requires-clause-within : goal.number_in-requires-clause-within
number_in-requires-clause-within c =
    let n = held_size c.self.inside.bytes.items c.self.inside.count c.self.invariant in
    let same = ap length c.deref.ensures.value in
    omega (arith, n, same, c.if-from.false, c.from.ensures, c.from-2.ensures, c.from-3.ensures)
