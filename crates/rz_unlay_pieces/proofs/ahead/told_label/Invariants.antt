use Rattle.std.proofs.Common.{◌≡◌, ◌≤◌, drop}
use Rattle.std.specs.Prelude.{option_map}
use Rattle.rz_types_fields.specs.Field.{plain_body}
use Rattle.rz_types_fields.specs.Known.{known}
use Rattle.rz_unlay_pieces.specs.Ahead.{told_label}
use Rattle.rz_unlay_pieces.specs.Seen.{told_capped}
use Rattle.rz_unlay_pieces.proofs.Labels.{told_behind}
use Rattle.rz_unlay_pieces.proofs.ahead.told_label.Given as goal

abbrev pub invariant-loop-field : goal.invariant-loop-field
invariant-loop-field l = record {
  read : told_behind l.len (known l.notes.items) l.width (plain_body (drop l.field-index l.rest)) ≡ option_map told_capped (told_label l.len (plain_body l.rest) (known l.notes.items));
  few : l.width ≤ 134217697;
}
