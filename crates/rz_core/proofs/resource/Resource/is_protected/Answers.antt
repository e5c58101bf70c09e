use Rattle.std.proofs.Common.{◌∙◌}
use Rattle.rz_core.proofs.OneBit.{has_some}
use Rattle.rz_core.proofs.resource.Resource.is_protected.Goals as goal

pub returns : goal.returns
returns c = c.contains.ensures tt ∙ has_some c.args.self.now.attr 3
