use Rattle.std.proofs.Common.{◌≡◌, ℕ, Bool, true, List, [], length}
use Rattle.rz_types.specs.Field.{plain_body}
use Rattle.rz_show.specs.Lines.{is_settled, left, IsSound}
use Rattle.rz_show.specs.Shown.{row_prints, rows_prints}
use Rattle.rz_show.proofs.open_list.OpenList.settled.Given as goal

abbrev pub invariant-rows : goal.invariant-rows
invariant-rows l = record {
  same : (hidden : List ℕ → Bool) → row_prints hidden (plain_body l.fields) l.values (rows_prints (row_prints hidden (plain_body l.row)) l.rows) ≡ left hidden l.self;
  front : is_settled (plain_body l.fields) [] ≡ true;
  sound : IsSound (plain_body l.fields);
}

abbrev pub decreases-rows : goal.decreases-rows
decreases-rows l = length l.rows
