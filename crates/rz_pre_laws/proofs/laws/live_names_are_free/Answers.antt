use Rattle.rz_pre_laws.proofs.Freeing.{program_free}
use Rattle.rz_pre_laws.proofs.laws.live_names_are_free.Goals as goal

pub returns : goal.returns
returns c = program_free
