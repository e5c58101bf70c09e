use Rattle.std.proofs.Common.{◌≡◌, drop}
use Rattle.rz_types_fields.specs.Field.{plain_body}
use Rattle.rz_types.specs.Walk.{and_names, names_of}
use Rattle.rz_types_check.specs.Walked.{own_of}
use Rattle.rz_types_check.proofs.names.push_names.Given as goal

abbrev pub invariant-loop-field : goal.invariant-loop-field
invariant-loop-field l = and_names (own_of l.names) (names_of (plain_body (drop l.field-index l.row))) ≡ and_names (own_of l.fn.names) (names_of (plain_body l.row))
