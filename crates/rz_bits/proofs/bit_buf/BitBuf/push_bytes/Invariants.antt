use Rattle.std.proofs.Common.{◌≡◌, ◌+◌, ◌-◌, ◌*◌, ◌<◌, ◌^◌, ◌++◌, drop, length}
use Rattle.rz_bits.specs.Bits.{bits_of}
use Rattle.rz_bits.proofs.bit_buf.BitBuf.push_bytes.Given as goal

abbrev pub invariant-loop-byte : goal.invariant-loop-byte
invariant-loop-byte l = record {
  pushed : l.self ++ bits_of (drop l.byte-index l.bytes) ≡ l.fn.self ++ bits_of l.bytes;
  room : length l.self + 8 * (length l.bytes - l.byte-index) < 2 ^ 31;
}
