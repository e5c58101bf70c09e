use Rattle.rz_tools_laws.proofs.Bridge.{all_said, bridge_said}
use Rattle.rz_tools_laws.proofs.laws.bridges_are_asked_for_all.Goals as goal

pub returns-clause-said : goal.returns-clause-said
returns-clause-said c = all_said

pub returns-clause-exact : goal.returns-clause-exact
returns-clause-exact c = bridge_said
