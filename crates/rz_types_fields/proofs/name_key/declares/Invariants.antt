use Rattle.std.proofs.Common.{◌≡◌, drop}
use Rattle.rz_types_fields.specs.Field.{plain_body}
use Rattle.rz_types_fields.specs.Passed.{declares}
use Rattle.rz_expr.specs.NameKey.{key_of}
use Rattle.rz_types_fields.proofs.name_key.declares.Given as goal

abbrev pub invariant-loop-field : goal.invariant-loop-field
invariant-loop-field l = declares (plain_body (drop l.field-index l.row)) (key_of l.key) ≡ declares (plain_body l.row) (key_of l.key)
