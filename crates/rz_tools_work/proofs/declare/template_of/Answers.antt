use Rattle.rz_types.specs.Field.{plain_body}
use Rattle.rz_tools_work.proofs.TypeFaults.{checked_rule}
use Rattle.rz_tools_work.proofs.declare.template_of.Goals as goal

pub on_line-requires : goal.on_line-requires
on_line-requires c = checked_rule (plain_body c.in-Fields.body) c.check.result c.check.ensures
