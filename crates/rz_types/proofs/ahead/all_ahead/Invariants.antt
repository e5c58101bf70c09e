use Rattle.std.proofs.Common.{◌-◌, drop}
use Rattle.rz_types_fields.specs.Field.{plain_body}
use Rattle.rz_types.proofs.NearLabels.{NearHere}
use Rattle.rz_types.proofs.ahead.all_ahead.Given as goal

abbrev pub invariant-loop-later : goal.invariant-loop-later
invariant-loop-later l = NearHere (plain_body (drop (l.count - l.later) l.fields)) l.near.items
