use Rattle.std.proofs.Common.{drop}
use Rattle.rz_bits.specs.Bits.{bits_of, front_bytes}
use Rattle.rz_bits.proofs.Windows.{shifted_next}
use Rattle.rz_bits.proofs.bit_view.shifted_bytes.Goals as goal

pub loop-i-preserved : goal.loop-i-preserved
loop-i-preserved c =
    shifted_next c.loop-i.copy c.push.new.self (bits_of c.args.bytes.now) c.args.place c.args.count c.loop-i.i c.number_in.result (front_bytes c.args.count (drop c.args.place (bits_of c.args.bytes.now)))
    c.loop-i-test.true c.number_in.ensures.number c.in_ok-push.ensures.ok c.loop-i.invariant
