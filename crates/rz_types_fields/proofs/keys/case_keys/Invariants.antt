use Rattle.std.proofs.Common.{◌≡◌, ◌++◌, drop}
use Rattle.rz_types_fields.specs.Field.{plain_body}
use Rattle.rz_types_fields.specs.Width.{case_keys, keys_from}
use Rattle.rz_types_fields.proofs.keys.case_keys.Given as goal

abbrev pub invariant-loop-field : goal.invariant-loop-field
invariant-loop-field l = l.keys.items ++ keys_from l.before (plain_body (drop l.field-index l.row)) ≡ case_keys (plain_body l.row)
