use Rattle.rz_catalog.proofs.Rows.{row_stays}
use Rattle.rz_catalog.proofs.laws.changed_rows_are_rows.Goals as goal

pub returns : goal.returns
returns c body texts old new is has = row_stays body old new has.same is
