use Rattle.rz_core.proofs.Names.{has_name}
use Rattle.rz_core.proofs.message.append_rule.Goals as goal

pub unwrap-requires : goal.unwrap-requires
unwrap-requires c = has_name c.args.number c.fault_name.result c.requires c.fault_name.ensures
