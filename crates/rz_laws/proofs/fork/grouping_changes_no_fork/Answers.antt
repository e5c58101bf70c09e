use Rattle.rz_laws.proofs.Again.{fork_again}
use Rattle.rz_laws.proofs.fork.grouping_changes_no_fork.Goals as goal

pub returns : goal.returns
returns c = fork_again
