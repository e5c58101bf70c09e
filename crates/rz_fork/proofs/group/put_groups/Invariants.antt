use Rattle.std.proofs.Common.{◌≡◌, take}
use Rattle.rz_fork.specs.Image.{kinds_of}
use Rattle.rz_fork.specs.Groups.{AreGroups}
use Rattle.rz_fork.proofs.group.put_groups.Given as goal

abbrev pub invariant-loop-resource : goal.invariant-loop-resource
invariant-loop-resource l = record {
  keys : l.kinds.keys ≡ kinds_of (take l.resource-index l.list);
  groups : AreGroups (take l.resource-index l.list) l.groups.items;
}
