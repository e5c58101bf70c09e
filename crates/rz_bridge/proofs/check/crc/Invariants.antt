use Rattle.std.proofs.Common.{◌≡◌, drop, fold}
use Rattle.rz_bridge.specs.Check.{byte_more}
use Rattle.rz_bridge.proofs.check.crc.Given as goal

abbrev pub invariant-loop-byte : goal.invariant-loop-byte
invariant-loop-byte l = fold byte_more l.check (drop l.byte-index l.bytes) ≡ fold byte_more l.start l.bytes
