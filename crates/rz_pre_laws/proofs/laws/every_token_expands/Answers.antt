use Rattle.rz_pre_laws.proofs.Expands.{every_token_expands}
use Rattle.rz_pre_laws.proofs.laws.every_token_expands.Goals as goal

pub returns : goal.returns
returns c = every_token_expands
