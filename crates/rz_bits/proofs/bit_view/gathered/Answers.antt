use Rattle.std.proofs.Common.{arith}
use Rattle.rz_bits.proofs.Bytes.{no_bits}
use Rattle.rz_bits.proofs.Windows.{gathered_more, gathered_small}
use Rattle.rz_bits.proofs.bit_view.gathered.Goals as goal

pub loop-byte-init : goal.loop-byte-init
loop-byte-init c = record { bits = no_bits 0; small = omega arith }

pub loop-byte-preserved : goal.loop-byte-preserved
loop-byte-preserved c =
    let fits = (c.type_inv.bytes c.loop-byte.byte-index).fits in
    record {
      bits = gathered_more c.args.bytes.now c.loop-byte.byte-index c.loop-byte.number c.from.result c.loop-byte-test.true c.from.ensures (omega (arith, fits, c.from.ensures)) c.loop-byte.invariant.bits;
      small = gathered_small c.loop-byte.byte-index c.loop-byte.number c.from.result c.loop-byte.invariant.small (omega (arith, fits, c.from.ensures));
    }
