use Rattle.std.proofs.Common.{◌≡◌, ◌++◌, length, drop}
use Rattle.rz_tools_answer.specs.Warning.{warning_lines, AreWarnings}
use Rattle.rz_tools_answer.proofs.warning.warning_lines.Given as goal

abbrev pub invariant-loop-warning : goal.invariant-loop-warning
invariant-loop-warning l = record {
  lines : l.lines ++ warning_lines l.files (drop l.warning-index l.warning-items) ≡ warning_lines l.files l.warning-items;
  nameable : AreWarnings (length l.files) (drop l.warning-index l.warning-items);
}
