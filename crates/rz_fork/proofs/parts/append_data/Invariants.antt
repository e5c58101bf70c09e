use Rattle.std.proofs.Common.{◌≡◌, ◌++◌, ◌<◌, ◌^◌, drop, length}
use Rattle.rz_fork.specs.Groups.{shown}
use Rattle.rz_fork.specs.Image.{data_area}
use Rattle.rz_fork.proofs.parts.append_data.Given as goal

abbrev pub invariant-loop-resource : goal.invariant-loop-resource
invariant-loop-resource l = record {
  so_far : l.out ++ data_area (shown (drop l.resource-index l.order)) ≡ l.initial.out ++ data_area (shown l.order);
  bound : length (data_area (shown (drop l.resource-index l.order))) < 2 ^ 32;
}
