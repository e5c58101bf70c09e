use Rattle.std.proofs.Common.{◌≡◌, ◌+◌, ◌≤◌, drop}
use Rattle.std.specs.Str.{str_to_ascii_lowercase}
use Rattle.rz_types_fields.specs.Field.{plain_body}
use Rattle.rz_types_fields.specs.FlatRows.{label_index}
use Rattle.rz_types_fields.proofs.names.label_index.Given as goal

abbrev pub invariant-loop-field : goal.invariant-loop-field
invariant-loop-field l = record {
  index : l.before + label_index (plain_body (drop l.field-index l.row)) (str_to_ascii_lowercase l.label.bytes) ≡ label_index (plain_body l.row) (str_to_ascii_lowercase l.label.bytes);
  few : l.before ≤ l.field-index;
}
