use Rattle.rz_pre_source.proofs.EverySource.{every_source}
use Rattle.rz_pre_source.proofs.laws.every_source_is_read.Goals as goal

pub returns : goal.returns
returns c = every_source
