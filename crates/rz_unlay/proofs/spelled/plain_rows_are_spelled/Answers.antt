use Rattle.rz_unlay.proofs.Loose.{plain_is_spelled}
use Rattle.rz_unlay.proofs.spelled.plain_rows_are_spelled.Goals as goal

pub returns : goal.returns
returns c = plain_is_spelled
