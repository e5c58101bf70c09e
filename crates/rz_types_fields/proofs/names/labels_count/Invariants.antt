use Rattle.std.proofs.Common.{◌≡◌, ◌+◌, ◌≤◌, drop}
use Rattle.rz_types_fields.specs.Field.{plain_body}
use Rattle.rz_types_fields.specs.FlatRows.{labels_count}
use Rattle.rz_types_fields.proofs.names.labels_count.Given as goal

abbrev pub invariant-loop-field : goal.invariant-loop-field
invariant-loop-field l = record {
  count : l.count + labels_count (plain_body (drop l.field-index l.row)) ≡ labels_count (plain_body l.row);
  few : l.count ≤ l.field-index;
}
