use Rattle.rz_tools_laws.proofs.Ends.{go_on, parsed_ends}
use Rattle.rz_tools_laws.proofs.statement_laws.statements_go_on.Goals as goal

pub returns-clause-ended : goal.returns-clause-ended
returns-clause-ended c = parsed_ends

pub returns-clause-appended : goal.returns-clause-appended
returns-clause-appended c = go_on
