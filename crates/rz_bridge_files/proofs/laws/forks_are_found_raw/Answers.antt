use Rattle.rz_bridge_files.proofs.Raw.{fork_found, zeros_found}
use Rattle.rz_bridge_files.proofs.laws.forks_are_found_raw.Goals as goal

pub returns-clause-zeros : goal.returns-clause-zeros
returns-clause-zeros c = zeros_found

pub returns-clause-fork : goal.returns-clause-fork
returns-clause-fork c = fork_found
