use Rattle.rz_tools_args.specs.Definition.{IsName}
use Rattle.rz_tools_args.proofs.Found.{none_so}
use Rattle.rz_tools_args.proofs.definition.define_alone.Goals as goal

pub returns-in-None : goal.returns-in-None
returns-in-None c def is = none_so (IsName c.args.name.now) _ c.in_ok-name.ensures c.in-None.is def.name is.0
