use Rattle.rz_pre_laws.proofs.LastOne.{all_rows, decided, expands_behind, undecided}
use Rattle.rz_pre_laws.proofs.laws.last_definition.Goals as goal

pub returns-clause-decides : goal.returns-clause-decides
returns-clause-decides c = decided

pub returns-clause-itself : goal.returns-clause-itself
returns-clause-itself c = undecided

pub returns-clause-finite : goal.returns-clause-finite
returns-clause-finite c = all_rows

pub returns-clause-expands : goal.returns-clause-expands
returns-clause-expands c = expands_behind
