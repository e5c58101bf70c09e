use Rattle.std.proofs.Common.{◌≡◌, ◌-◌, drop, length}
use Rattle.rz_stmt_items.specs.Item.{plain_items}
use Rattle.rz_stmt_items.specs.Matched.{row_matched, rows_matched}
use Rattle.rz_stmt_items.proofs.Steps.{row_behind, rows_behind}
use Rattle.rz_types.specs.Cases.{AreNamesApart}
use Rattle.rz_types.specs.Field.{plain_body}
use Rattle.rz_stmt_items.proofs.matching.+matching.Given as goal

abbrev pub invariant-match_row-loop-field : goal.invariant-match_row-loop-field
invariant-match_row-loop-field l = record {
  row : row_behind l.row (row_matched l.facts (plain_body (drop l.field-index l.fields)) l.place (plain_items l.items) l.next (plain_items (drop l.next l.items)))
      ≡ row_matched l.facts (plain_body l.fields) l.place (plain_items l.items) l.before (plain_items (drop l.before l.items));
  apart : AreNamesApart (plain_body (drop l.field-index l.fields));
}

abbrev pub invariant-rows_for-loop-turn : goal.invariant-rows_for-loop-turn
invariant-rows_for-loop-turn l =
    rows_behind l.rows (rows_matched (row_matched l.facts (plain_body l.fields) l.place (plain_items l.items)) (length l.items - l._turn) l.before (plain_items (drop l.before l.items)))
    ≡ rows_matched (row_matched l.facts (plain_body l.fields) l.place (plain_items l.items)) (length l.items) 0 (plain_items l.items)
