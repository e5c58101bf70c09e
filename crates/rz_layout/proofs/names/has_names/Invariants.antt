use Rattle.std.proofs.Common.{◌≡◌, drop}
use Rattle.rz_types_fields.specs.Field.{plain_body}
use Rattle.rz_layout.specs.Laid.{has_names}
use Rattle.rz_layout.proofs.names.has_names.Given as goal

abbrev pub invariant-loop-field : goal.invariant-loop-field
invariant-loop-field l = has_names (plain_body (drop l.field-index l.fields)) ≡ has_names (plain_body l.fields)
