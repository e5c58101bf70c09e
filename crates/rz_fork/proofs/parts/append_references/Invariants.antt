use Rattle.std.proofs.Common.{◌≡◌, ◌++◌, ◌≤◌, ◌<◌, ◌^◌, take, drop, length, ◌+◌, FitsSigned}
use Rattle.std.specs.Int.{w16}
use Rattle.std.specs.List.{AllByRecursion}
use Rattle.rz_core.specs.Lists.{with_front}
use Rattle.rz_fork.specs.Groups.{shown}
use Rattle.rz_fork.specs.Image.{data_area, name_list, reference, reference_lists, AreNamed}
use Rattle.rz_fork.proofs.parts.append_references.Given as goal

abbrev pub invariant-loop-resource : goal.invariant-loop-resource
invariant-loop-resource l = record {
  so_far : l.out ++ with_front reference (shown (take l.resource-index l.order)) (shown (drop l.resource-index l.order)) ≡ l.initial.out ++ reference_lists (shown l.order);
  data_is : l.data_end ≡ length (data_area (shown (take l.resource-index l.order)));
  data_bound : l.data_end + length (data_area (shown (drop l.resource-index l.order))) ≤ 2 ^ 24;
  names_is : l.names_end ≡ length (name_list (shown (take l.resource-index l.order)));
  names_bound : l.names_end + length (name_list (shown (drop l.resource-index l.order))) < 2 ^ 16;
  ids : AllByRecursion (λ r. FitsSigned w16 r.id) (shown (take l.resource-index l.order));
  named : AreNamed (shown (drop l.resource-index l.order));
}
