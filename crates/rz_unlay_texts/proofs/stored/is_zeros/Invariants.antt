use Rattle.std.proofs.Common.{◌≡◌, ◌-◌, length, drop}
use Rattle.std.specs.Prelude.{replicate}
use Rattle.rz_unlay_texts.specs.Plain.{same_bytes}
use Rattle.rz_unlay_texts.proofs.stored.is_zeros.Given as goal

abbrev pub invariant-loop-byte : goal.invariant-loop-byte
invariant-loop-byte l = same_bytes (replicate (length l.bytes - l.byte-index) 0) (drop l.byte-index l.bytes) ≡ same_bytes (replicate l.fn.count 0) l.bytes
