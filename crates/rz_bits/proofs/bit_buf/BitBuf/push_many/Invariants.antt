use Rattle.std.proofs.Common.{◌≡◌, ◌+◌, ◌<◌, ◌^◌, ◌++◌, length, replicate}
use Rattle.rz_bits.proofs.bit_buf.BitBuf.push_many.Given as goal

abbrev pub decreases-loop-left : goal.decreases-loop-left
decreases-loop-left l = l.left

abbrev pub invariant-loop-left : goal.invariant-loop-left
invariant-loop-left l = record {
  pushed : l.self ++ replicate l.left l.bit ≡ l.fn.self ++ replicate l.count l.bit;
  room : length l.self + l.left < 2 ^ 31;
}
