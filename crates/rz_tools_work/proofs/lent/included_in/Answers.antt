use Rattle.std.proofs.Common.{ap}
use Rattle.std.specs.Option.{option_map}
use Rattle.rz_set.specs.Choice.{key_pair}
use Rattle.rz_tools_work.proofs.lent.included_in.Goals as goal

pub returns-clause-included : goal.returns-clause-included
returns-clause-included c = c.included_as.ensures.included c.args.fork.now.list (ap (option_map key_pair) c.requires)

pub returns-clause-there : goal.returns-clause-there
returns-clause-there c = c.included_as.ensures.there c.args.fork.now.list (ap (option_map key_pair) c.requires)

pub returns-clause-missing : goal.returns-clause-missing
returns-clause-missing c = c.included_as.ensures.missing c.args.fork.now.list (ap (option_map key_pair) c.requires)
