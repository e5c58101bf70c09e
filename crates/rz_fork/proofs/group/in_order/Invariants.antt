use Rattle.std.proofs.Common.{◌≡◌, ◌++◌, drop}
use Rattle.std.specs.List.{flat_map}
use Rattle.rz_fork.specs.Groups.{shown, members_of}
use Rattle.rz_fork.proofs.group.in_order.Given as goal

abbrev pub invariant-loop-group : goal.invariant-loop-group
invariant-loop-group l = shown l.order.items ++ flat_map members_of (drop l.group-index l.groups) ≡ flat_map members_of l.groups
