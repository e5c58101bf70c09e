use Rattle.rz_stmt_items.proofs.Rows.{row_of}
use Rattle.rz_stmt_items.proofs.laws.matched_rows_are_rows.Goals as goal

pub returns : goal.returns
returns c = λ known place body items row is. row_of known body items row is
