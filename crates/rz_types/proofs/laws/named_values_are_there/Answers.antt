use Rattle.rz_types.proofs.Named.{known_early, known_own, known_there}
use Rattle.rz_types.proofs.laws.named_values_are_there.Goals as goal

pub returns-clause-values : goal.returns-clause-values
returns-clause-values c = known_there

pub returns-clause-names : goal.returns-clause-names
returns-clause-names c = known_own

pub returns-clause-early : goal.returns-clause-early
returns-clause-early c = known_early
