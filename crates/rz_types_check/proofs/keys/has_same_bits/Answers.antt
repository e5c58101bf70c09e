use Rattle.std.proofs.Common.{◌∙◌}
use Rattle.rz_types_check.proofs.keys.has_same_bits.Goals as goal

pub returns : goal.returns
returns c = c.contains.ensures ∙ c.args.before.now.held c.args.key.now.bits
