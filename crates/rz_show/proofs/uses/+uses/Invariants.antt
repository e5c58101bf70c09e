use Rattle.std.proofs.Common.{◌≡◌, drop}
use Rattle.std.specs.List.{list_any}
use Rattle.rz_types.specs.Cases.{AreNamesApart}
use Rattle.rz_types.specs.Field.{plain_body}
use Rattle.rz_show.specs.Hidden.{hides}
use Rattle.rz_show.specs.Shown.{row_uses}
use Rattle.rz_show.proofs.uses.+uses.Given as goal

abbrev pub invariant-row_uses-loop-field : goal.invariant-row_uses-loop-field
invariant-row_uses-loop-field l = record {
  uses : row_uses (hides l.hidden) (plain_body (drop l.field-index l.fields)) l.values ≡ row_uses (hides l.hidden) (plain_body l.fields) l.row;
  apart : AreNamesApart (plain_body (drop l.field-index l.fields));
}

abbrev pub invariant-rows_use-loop-row : goal.invariant-rows_use-loop-row
invariant-rows_use-loop-row l = list_any (row_uses (hides l.hidden) (plain_body l.fields)) (drop l.row-index l.rows) ≡ list_any (row_uses (hides l.hidden) (plain_body l.fields)) l.rows
