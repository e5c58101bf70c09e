use Rattle.std.proofs.Common.{◌≡◌, drop}
use Rattle.rz_types_fields.specs.Field.{plain_body}
use Rattle.rz_types.specs.Rules.{has_values}
use Rattle.rz_types_check.proofs.rules.has_values.Given as goal

abbrev pub invariant-loop-field : goal.invariant-loop-field
invariant-loop-field l = has_values (plain_body (drop l.field-index l.row)) ≡ has_values (plain_body l.row)
