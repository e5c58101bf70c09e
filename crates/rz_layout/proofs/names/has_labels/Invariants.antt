use Rattle.std.proofs.Common.{◌≡◌, drop}
use Rattle.std.specs.Prelude.{nat_lt}
use Rattle.rz_types_fields.specs.Field.{plain_body}
use Rattle.rz_types_fields.specs.FlatRows.{labels_count}
use Rattle.rz_layout.proofs.names.has_labels.Given as goal

abbrev pub invariant-loop-field : goal.invariant-loop-field
invariant-loop-field l = nat_lt 0 (labels_count (plain_body (drop l.field-index l.row))) ≡ nat_lt 0 (labels_count (plain_body l.row))
