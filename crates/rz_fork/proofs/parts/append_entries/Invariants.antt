use Rattle.std.proofs.Common.{◌≡◌, ◌++◌, ◌<◌, ◌^◌, ◌*◌, ◌+◌, take, drop, length}
use Rattle.std.specs.List.{flat_map, AllByRecursion}
use Rattle.rz_core.specs.Lists.{with_front}
use Rattle.rz_fork.specs.Groups.{members_of, group_entry, group_entries}
use Rattle.rz_fork.proofs.parts.append_entries.Given as goal

abbrev pub invariant-loop-group : goal.invariant-loop-group
invariant-loop-group l = record {
  so_far : l.out ++ with_front (group_entry (length l.groups)) (take l.group-index l.groups) (drop l.group-index l.groups) ≡ l.initial.out ++ group_entries l.groups;
  codes : AllByRecursion (λ g. g.code < 2 ^ 32) (take l.group-index l.groups);
  at : l.at ≡ 2 + 8 * length l.groups + 12 * length (flat_map members_of (take l.group-index l.groups));
  bound : l.at + 12 * length (flat_map members_of (drop l.group-index l.groups)) < 2 ^ 16;
}
