use Rattle.rz_laws.proofs.Showing.{shown_so}
use Rattle.rz_laws.proofs.unlay.laid_rows_are_shown_what_is_finished.Goals as goal

pub returns : goal.returns
returns c = shown_so
