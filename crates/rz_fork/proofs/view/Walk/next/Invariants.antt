use Rattle.std.proofs.Common.{◌≡◌, ◌-◌}
use Rattle.rz_fork.specs.View.{left, CanLend}
use Rattle.rz_fork.proofs.view.Walk.next.Given as goal

abbrev pub invariant-loop-self : goal.invariant-loop-self
invariant-loop-self l = record {
  same : left l.self-inside.bytes.now l.self-inside.outline l.self-inside.entry l.self-inside.next l.self-inside.begun
      ≡ left l.initial.self-inside.bytes.now l.initial.self-inside.outline l.initial.self-inside.entry l.initial.self-inside.next l.initial.self-inside.begun;
  can : CanLend l.self-inside.bytes.now l.self-inside.outline l.self-inside.entry l.self-inside.next l.self-inside.begun;
}

abbrev pub decreases-loop-self : goal.decreases-loop-self
decreases-loop-self l = l.self-inside.outline.count - l.self-inside.begun
