use Rattle.std.proofs.Common.{◌≡◌, take, drop}
use Rattle.rz_unlay_texts.specs.Plain.{up_to_zero}
use Rattle.rz_unlay_texts.proofs.TextSteps.{with_bytes}
use Rattle.rz_unlay_texts.proofs.plain.before_zero_byte.Given as goal

abbrev pub invariant-loop-count : goal.invariant-loop-count
invariant-loop-count l = with_bytes (take l.count l.bytes) (up_to_zero (drop l.count l.bytes)) ≡ up_to_zero l.bytes
