use Rattle.std.proofs.Common.{◌≡◌, drop}
use Rattle.rz_layout.specs.Laid.{IsNotedBy}
use Rattle.rz_types_fields.specs.Field.{plain_body}
use Rattle.rz_types_fields.specs.Known.{known}
use Rattle.rz_types_fields.specs.Laid.{counted}
use Rattle.rz_types_fields.specs.Passed.{declares}
use Rattle.rz_layout.proofs.names.count_rows.Given as goal

abbrev pub invariant-loop-field : goal.invariant-loop-field
invariant-loop-field l = record {
  known : counted (plain_body (drop l.field-index l.fields)) l.values (known l.notes.items) ≡ counted (plain_body l.fields) l.row (known l.fn.notes.items);
  noted : IsNotedBy (declares (plain_body l.fields)) l.fn.notes.items l.notes.items;
}
