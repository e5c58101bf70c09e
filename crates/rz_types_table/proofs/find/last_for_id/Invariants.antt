use Rattle.std.proofs.Common.{◌≡◌, take}
use Rattle.std.specs.Prelude.{option_map}
use Rattle.rz_types_table.specs.Listed.{declaration_of, listed}
use Rattle.rz_types_table.specs.Table.{is_for, is_id, last_such}
use Rattle.rz_types_fields.proofs.Positions.{at_positions}
use Rattle.rz_types_table.proofs.find.last_for_id.Given as goal

abbrev pub invariant-loop-position : goal.invariant-loop-position
invariant-loop-position l = option_map (λ one. declaration_of one.now) l.by_id ≡ last_such (is_for l.kind (is_id l.id)) (listed (at_positions l.slots (take l.position-index l.own)))
