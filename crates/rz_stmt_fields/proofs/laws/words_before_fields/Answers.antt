use Rattle.rz_stmt_fields.proofs.Fronts.{fronts}
use Rattle.rz_stmt_fields.proofs.laws.words_before_fields.Goals as goal

pub returns : goal.returns
returns c = fronts
