use Rattle.std.proofs.Common.{◌≡◌, drop}
use Rattle.rz_types_fields.specs.Field.{plain_body}
use Rattle.rz_types_fields.specs.Passed.{states}
use Rattle.rz_expr.specs.NameKey.{key_of}
use Rattle.rz_types_fields.proofs.name_key.states.Given as goal

abbrev pub invariant-loop-field : goal.invariant-loop-field
invariant-loop-field l = states (plain_body (drop l.field-index l.row)) (key_of l.key) ≡ states (plain_body l.row) (key_of l.key)
