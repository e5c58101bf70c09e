use Rattle.std.proofs.Common.{◌+◌, ◌-◌, ◌*◌, ◌==◌, take, drop, sym, ◌∙◌, arith}
use Rattle.rz_bits.specs.Bits.{bits_of, number_of}
use Rattle.rz_bits.proofs.Windows.{zeros_next, zeros_over}
use Rattle.rz_bits.proofs.bit_view.are_zero.Goals as goal

pub returns-then-number_in-ne0 : goal.returns-then-number_in-ne0
returns-then-number_in-ne0 c =
    let some = c.if-number_in-ne0.true in
    zeros_over (drop (c.args.place + 32 * c.loop-i.i) (bits_of c.args.bytes.now)) 32 (c.args.count - 32 * c.loop-i.i) (omega arith) (omega (arith, c.number_in.ensures.number, some))
    ∙ c.loop-i.invariant

pub loop-i-preserved : goal.loop-i-preserved
loop-i-preserved c =
    zeros_next (bits_of c.args.bytes.now) c.args.place c.args.count c.loop-i.i (number_of (take c.args.count (drop c.args.place (bits_of c.args.bytes.now))) == 0) (omega arith)
    (sym c.number_in.ensures.number ∙ c.if-number_in-ne0.false) c.loop-i.invariant
