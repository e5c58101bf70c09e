use Rattle.std.proofs.Common.{◌≡◌, ◌++◌, drop}
use Rattle.rz_bridge.specs.Apple.{parts_shown, bytes_of}
use Rattle.rz_bridge.proofs.apple_out.append_bytes.Given as goal

abbrev pub invariant-loop-part : goal.invariant-loop-part
invariant-loop-part l = l.out ++ bytes_of (parts_shown (drop l.part-index l.parts)) ≡ l.fn.out ++ bytes_of (parts_shown l.parts)
