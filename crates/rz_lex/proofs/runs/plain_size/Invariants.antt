use Rattle.std.proofs.Common.{◌≡◌, ◌+◌, ◌-◌, ◌≤◌, drop, length}
use Rattle.std.specs.List.{prefix_len}
use Rattle.rz_lex.specs.Runs.{is_plain}
use Rattle.rz_lex.proofs.runs.plain_size.Given as goal

abbrev pub invariant-loop-size : goal.invariant-loop-size
invariant-loop-size l = record {
  counted : prefix_len is_plain l.bytes ≡ l.size + prefix_len is_plain (drop l.size l.bytes);
  within : l.size ≤ length l.bytes;
}

abbrev pub decreases-loop-size : goal.decreases-loop-size
decreases-loop-size l = length l.bytes - l.size
