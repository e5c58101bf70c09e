use Rattle.std.proofs.Common.{◌≡◌, ◌≤◌, take, drop, []}
use Rattle.rz_core.specs.Lists.{first_in}
use Rattle.rz_fork.specs.Layout.{entries}
use Rattle.rz_fork.specs.Rules.{list_rule, count_of}
use Rattle.rz_fork.proofs.admit.lists_outside.Given as goal

abbrev pub invariant-loop-position : goal.invariant-loop-position
invariant-loop-position l = record {
  so_far : l.so_far ≡ count_of (take l.position (entries l.bytes l.outline));
  few : l.so_far ≤ 16384;
  rest : first_in (list_rule l.outline) (take l.position (entries l.bytes l.outline)) (drop l.position (entries l.bytes l.outline)) ≡ first_in (list_rule l.outline) [] (entries l.bytes l.outline);
}
