use Rattle.rz_set.proofs.Finds.{put_found}
use Rattle.rz_set.proofs.laws.put_is_found.Goals as goal

pub returns : goal.returns
returns c = put_found
