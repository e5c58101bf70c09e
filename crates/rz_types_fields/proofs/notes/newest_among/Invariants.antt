use Rattle.std.proofs.Common.{◌≡◌, ◌-◌, length, take, None}
use Rattle.rz_expr.specs.NameKey.{key_of}
use Rattle.rz_types_fields.specs.Newest.{newest}
use Rattle.rz_types_fields.proofs.Positions.{at_positions}
use Rattle.rz_types_fields.proofs.notes.newest_among.Given as goal

abbrev pub invariant-loop-newer : goal.invariant-loop-newer
invariant-loop-newer l = newest l.told (key_of l.key) None (at_positions l.notes (take (length l.own - l.newer) l.own)) ≡ newest l.told (key_of l.key) None l.notes
