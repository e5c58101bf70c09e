use Rattle.std.proofs.Common.{◌≡◌, ◌≤◌, ◌-◌}
use Rattle.rz_told.specs.Left.{references_left, Marked}
use Rattle.rz_told.proofs.lists.next_reference.Given as goal

abbrev pub invariant-loop-next : goal.invariant-loop-next
invariant-loop-next l = record {
  same : references_left l.pass l.bytes l.outline l.entry l.initial.next ≡ references_left l.pass l.bytes l.outline l.entry l.next;
  onward : l.initial.next ≤ l.next;
  marked : Marked l.pass l.bytes l.marks l.entry l.next;
}

abbrev pub decreases-loop-next : goal.decreases-loop-next
decreases-loop-next l = l.entry.count - l.next
