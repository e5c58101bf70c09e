use Rattle.std.proofs.Common.{◌≡◌, drop}
use Rattle.rz_bits.specs.View.{seen}
use Rattle.rz_types.specs.Field.{plain_body}
use Rattle.rz_types.specs.Width.{case_keys, keys_from}
use Rattle.rz_unlay.specs.Cursor.{has_keys}
use Rattle.rz_unlay.specs.Fits.{AreFit, HasKeyFrom}
use Rattle.rz_unlay.proofs.cases.has_keys.Given as goal

abbrev pub invariant-loop-field : goal.invariant-loop-field
invariant-loop-field l = record {
  keys : has_keys (seen l.view) l.at (keys_from l.before (plain_body (drop l.field-index l.row))) ≡ has_keys (seen l.view) l.at (case_keys (plain_body l.row));
  key : HasKeyFrom l.before (plain_body (drop l.field-index l.row));
  fits : AreFit (plain_body (drop l.field-index l.row));
}
