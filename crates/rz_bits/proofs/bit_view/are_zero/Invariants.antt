use Rattle.std.proofs.Common.{◌≡◌, ◌+◌, ◌-◌, ◌*◌, ◌==◌, take, drop}
use Rattle.rz_bits.specs.Bits.{bits_of, number_of}
use Rattle.rz_bits.proofs.bit_view.are_zero.Given as goal

abbrev pub invariant-loop-i : goal.invariant-loop-i
invariant-loop-i l =
    (number_of (take (l.count - 32 * l.i) (drop (l.place + 32 * l.i) (bits_of l.bytes))) == 0) ≡ (number_of (take l.count (drop l.place (bits_of l.bytes))) == 0)
