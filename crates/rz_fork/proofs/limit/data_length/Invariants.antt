use Rattle.std.proofs.Common.{◌≡◌, ◌+◌, ◌-◌, ◌^◌, ◌≤◌, length, drop}
use Rattle.rz_core.specs.Numbers.{kept_length}
use Rattle.rz_fork.specs.Groups.{shown}
use Rattle.rz_fork.specs.Image.{data_area}
use Rattle.rz_fork.proofs.limit.data_length.Given as goal

abbrev pub invariant-loop-resource : goal.invariant-loop-resource
invariant-loop-resource l = record {
  so_far : kept_length (l.total + length (data_area (shown (drop l.resource-index l.order)))) ≡ kept_length (length (data_area (shown l.order)));
  bound : l.total ≤ 2 ^ 63 - 1;
}
