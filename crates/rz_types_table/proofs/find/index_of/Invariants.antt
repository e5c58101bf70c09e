use Rattle.std.proofs.Common.{◌≡◌, false, take}
use Rattle.std.specs.List.{list_any}
use Rattle.rz_types_table.specs.Listed.{listed}
use Rattle.rz_types_table.specs.Table.{stands_at}
use Rattle.rz_types_fields.proofs.Positions.{at_positions}
use Rattle.rz_types_table.proofs.find.index_of.Given as goal

abbrev pub invariant-loop-index : goal.invariant-loop-index
invariant-loop-index l = list_any (stands_at l.kind l.scope) (listed (at_positions l.slots (take l.index l.own))) ≡ false
