use Rattle.std.proofs.Common.{◌≡◌, length}
use Rattle.rz_tools_text.proofs.Lists.{ArePut}
use Rattle.rz_tools_text.proofs.shown.put_lines.Given as goal

abbrev pub invariant-lines : goal.invariant-lines
invariant-lines g l = record {
  put : ArePut l.fn.lines l.left (g.O.Sink.stream l.fn.out) (g.O.Sink.stream l.out);
  quiet : g.O.Sink.faults l.out ≡ g.O.Sink.faults l.fn.out;
}

abbrev pub decreases-lines : goal.decreases-lines
decreases-lines g l = length l.left
