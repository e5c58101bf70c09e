use Rattle.std.proofs.Common.{◌≡◌, drop}
use Rattle.std.specs.Str.{str_to_ascii_lowercase}
use Rattle.rz_types_fields.specs.Field.{plain_body}
use Rattle.rz_types_fields.specs.Passed.{has_label}
use Rattle.rz_types_fields.proofs.name_key.has_label.Given as goal

abbrev pub invariant-loop-field : goal.invariant-loop-field
invariant-loop-field l = has_label (plain_body (drop l.field-index l.row)) (str_to_ascii_lowercase l.label.bytes) ≡ has_label (plain_body l.row) (str_to_ascii_lowercase l.label.bytes)
