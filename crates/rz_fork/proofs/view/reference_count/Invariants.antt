use Rattle.std.proofs.Common.{◌≡◌, ◌≤◌, ◌*◌, take}
use Rattle.rz_fork.specs.Layout.{entries}
use Rattle.rz_fork.specs.Rules.{count_of}
use Rattle.rz_fork.proofs.view.reference_count.Given as goal

abbrev pub invariant-loop-position : goal.invariant-loop-position
invariant-loop-position l = record {
  so_far : l.count ≡ count_of (take l.position (entries l.bytes l.outline));
  few : l.count ≤ 65536 * l.position;
}
