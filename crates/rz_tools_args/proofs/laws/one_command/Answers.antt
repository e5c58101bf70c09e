use Rattle.rz_tools_args.proofs.Once.{one_asked, one_position}
use Rattle.rz_tools_args.proofs.laws.one_command.Goals as goal

pub returns-clause-command : goal.returns-clause-command
returns-clause-command c = one_asked c.one_text.ensures.text c.one_cut.ensures.tokens

pub returns-clause-position : goal.returns-clause-position
returns-clause-position c = one_position
