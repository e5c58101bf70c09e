use Rattle.std.proofs.Common.{◌≡◌, ◌*◌, ◌^◌, ◌<◌, take}
use Rattle.rz_bits.specs.Bits.{bits_of, number_bits}
use Rattle.rz_bits.proofs.bit_view.gathered.Given as goal

abbrev pub invariant-loop-byte : goal.invariant-loop-byte
invariant-loop-byte l = record {
  bits : number_bits (8 * l.byte-index) l.number ≡ bits_of (take l.byte-index l.bytes);
  small : l.number < 2 ^ (8 * l.byte-index);
}
