use Rattle.std.proofs.Common.{◌≡◌, ◌-◌}
use Rattle.rz_told.specs.Left.{left_here, IsAt, Marked}
use Rattle.rz_told.proofs.lists.next_in_pass.Given as goal

abbrev pub invariant-loop-pass : goal.invariant-loop-pass
invariant-loop-pass l = record {
  same : left_here l.pass l.bytes l.outline l.initial.cursor ≡ left_here l.pass l.bytes l.outline l.cursor;
  at : IsAt l.bytes l.outline l.cursor;
  marked : Marked l.pass l.bytes l.marks l.cursor.entry l.cursor.next;
}

abbrev pub decreases-loop-pass : goal.decreases-loop-pass
decreases-loop-pass l = l.outline.count - l.cursor.begun
