use Rattle.std.proofs.Common.{◌≡◌, ◌+◌, ◌≤◌, drop}
use Rattle.rz_types_fields.specs.Field.{plain_body}
use Rattle.rz_types.specs.Ahead.{measured}
use Rattle.rz_types.proofs.ahead.count_measured.Given as goal

abbrev pub invariant-loop-field : goal.invariant-loop-field
invariant-loop-field l = record {
  count : l.count + measured (plain_body (drop l.field-index l.fields)) ≡ measured (plain_body l.fields);
  few : l.count ≤ l.field-index;
}
