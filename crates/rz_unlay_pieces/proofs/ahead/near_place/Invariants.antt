use Rattle.std.proofs.Common.{◌≡◌, drop}
use Rattle.rz_expr.specs.Environment.{place_key}
use Rattle.rz_types_fields.specs.Field.{plain_body}
use Rattle.rz_unlay_pieces.proofs.Labels.{near_within}
use Rattle.rz_unlay_pieces.proofs.ahead.near_place.Given as goal

abbrev pub invariant-loop-field : goal.invariant-loop-field
invariant-loop-field l =
    near_within l.len (plain_body (drop l.field-index l.fields)) l.at (place_key l.name.bytes) ≡ near_within l.len (plain_body l.fields) l.first (place_key l.name.bytes)
