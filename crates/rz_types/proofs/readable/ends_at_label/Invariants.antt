use Rattle.std.proofs.Common.{◌≡◌, drop}
use Rattle.rz_types_fields.specs.Field.{plain_body}
use Rattle.rz_types.specs.Notes.{passed}
use Rattle.rz_types.specs.Readable.{ends_at_label}
use Rattle.rz_types.proofs.readable.ends_at_label.Given as goal

abbrev pub invariant-loop-field : goal.invariant-loop-field
invariant-loop-field l = ends_at_label (plain_body (drop l.field-index l.rest)) (passed l.notes).told ≡ ends_at_label (plain_body l.rest) (passed l.notes).told
