use Rattle.std.proofs.Common.{◌≡◌, true, length}
use Rattle.rz_told.specs.Left.{behind, left_in, IsAt, Marked}
use Rattle.rz_told.specs.declared.lists.Pass.TheVariants as passes
use Rattle.rz_told.proofs.lists.next_in_lists.Given as goal

abbrev pub invariant-loop-outline : goal.invariant-loop-outline
invariant-loop-outline l = record {
  same : left_in l.area l.initial.pass l.bytes l.outline l.initial.cursor ≡ left_in l.area l.pass l.bytes l.outline l.cursor;
  tested : l.pass ≡ passes.Data → l.area ≡ true;
  at : IsAt l.bytes l.outline l.cursor;
  marked : Marked l.pass l.bytes l.marks l.cursor.entry l.cursor.next;
}

abbrev pub decreases-loop-outline : goal.decreases-loop-outline
decreases-loop-outline l = length (behind l.area l.pass)
