use Rattle.rz_types.proofs.Broken.{broken_is, broken_none}
use Rattle.rz_types.proofs.laws.first_broken_rule.Goals as goal

pub returns-clause-fault : goal.returns-clause-fault
returns-clause-fault c = broken_is

pub returns-clause-kept : goal.returns-clause-kept
returns-clause-kept c = broken_none
