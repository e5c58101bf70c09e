use Rattle.std.proofs.Common.{◌≡◌, ◌<◌, ◌-◌, length, slice_get}
use Rattle.rz_fork.specs.View.{left, CanLend}
use Rattle.rz_fork.proofs.view.ForkView.resource.Given as goal

abbrev pub invariant-loop-entry : goal.invariant-loop-entry
invariant-loop-entry l = record {
  can : CanLend l.self-inside.bytes.now l.self-inside.outline l.entry l.next l.begun;
  within : l.next < length (left l.self-inside.bytes.now l.self-inside.outline l.entry 0 l.begun);
  there : slice_get (left l.self-inside.bytes.now l.self-inside.outline l.entry 0 l.begun) l.next ≡ slice_get l.self.list l.k;
}

abbrev pub decreases-loop-entry : goal.decreases-loop-entry
decreases-loop-entry l = l.self-inside.outline.count - l.begun
