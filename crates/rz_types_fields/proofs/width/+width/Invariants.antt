use Rattle.std.proofs.Common.{◌≡◌, drop}
use Rattle.std.specs.Prelude.{option_map}
use Rattle.rz_types_fields.specs.Field.{plain_body}
use Rattle.rz_types_fields.specs.Width.{capped, fixed_widths, plus}
use Rattle.rz_types_fields.proofs.width.+width.Given as goal

abbrev pub invariant-fixed_widths-loop-field : goal.invariant-fixed_widths-loop-field
invariant-fixed_widths-loop-field l = record {
  width : option_map capped (plus l.width (fixed_widths (plain_body (drop l.field-index l.row)))) ≡ option_map capped (fixed_widths (plain_body l.row));
  small : option_map capped l.width ≡ l.width;
}
