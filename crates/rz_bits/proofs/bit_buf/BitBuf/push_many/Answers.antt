use Rattle.std.proofs.Common.{◌≤◌, arith}
use Rattle.rz_bits.specs.Bits.{number_bits}
use Rattle.rz_bits.proofs.Many.{many_more, many_room}
use Rattle.rz_bits.proofs.Numbers.{length-number_bits}
use Rattle.rz_bits.proofs.bit_buf.BitBuf.push_many.Goals as goal

pub loop-left-preserved : goal.loop-left-preserved
loop-left-preserved c =
    let bits = c.repeated-bits.result in
    let within : 32 ≤ c.loop-left.left = omega (arith, c.loop-left-test.true) in
    record {
      pushed = many_more c.loop-left.self (number_bits 32 bits) c.push.new.self _ c.args.bit 32 c.loop-left.left within (c.repeated-bits.ensures 32 (omega arith)) c.in_ok-push.ensures.ok
          c.loop-left.invariant.pushed;
      room = many_room c.loop-left.self (number_bits 32 bits) c.push.new.self 32 c.loop-left.left within (length-number_bits 32 bits) c.in_ok-push.ensures.ok c.loop-left.invariant.room;
    }
