use Rattle.std.proofs.Common.{◌≡◌, ◌+◌, ◌-◌, ◌≤◌, drop, length}
use Rattle.std.specs.List.{prefix_len}
use Rattle.rz_lex.specs.Classes.{is_word_byte}
use Rattle.rz_pre_source.proofs.directive.word_size.Given as goal

abbrev pub invariant-loop-size : goal.invariant-loop-size
invariant-loop-size l = record {
  counted : prefix_len is_word_byte l.bytes ≡ l.size + prefix_len is_word_byte (drop l.size l.bytes);
  within : l.size ≤ length l.bytes;
}

abbrev pub decreases-loop-size : goal.decreases-loop-size
decreases-loop-size l = length l.bytes - l.size
