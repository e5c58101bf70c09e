use Rattle.std.proofs.Common.{◌≡◌, ◌≤◌, take, length}
use Rattle.rz_unlay_texts.specs.Plain.{trimmed}
use Rattle.rz_unlay_texts.proofs.plain.trimmed_len.Given as goal

abbrev pub decreases-loop-len : goal.decreases-loop-len
decreases-loop-len l = l.len

abbrev pub invariant-loop-len : goal.invariant-loop-len
invariant-loop-len l = record {
  same : trimmed (take l.len l.bytes) ≡ trimmed l.bytes;
  within : l.len ≤ length l.bytes;
}
