use Rattle.std.proofs.Common.{◌≡◌, ◌+◌, ◌-◌, ◌*◌, ◌++◌, drop}
use Rattle.rz_bits.specs.Bits.{bits_of, front_bytes}
use Rattle.rz_bits.proofs.bit_view.shifted_bytes.Given as goal

abbrev pub invariant-loop-i : goal.invariant-loop-i
invariant-loop-i l = l.copy ++ front_bytes (l.count - l.i) (drop (l.place + 8 * l.i) (bits_of l.bytes)) ≡ front_bytes l.count (drop l.place (bits_of l.bytes))
