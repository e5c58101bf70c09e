use Rattle.rz_tools_args.specs.Definition.{IsName, IsText}
use Rattle.rz_tools_args.proofs.Found.{none_so}
use Rattle.rz_tools_args.proofs.definition.define_text.Goals as goal

pub returns-in_default : goal.returns-in_default
returns-in_default c def is = none_so (IsName c.args.name.now) _ c.in_ok-name.ensures c.in_default.is def.name is.1

pub returns-in-None : goal.returns-in-None
returns-in-None c def is = none_so (IsText c.args.text.now) _ c.in_ok-tokens.ensures c.in-None.is is.0 is.2
