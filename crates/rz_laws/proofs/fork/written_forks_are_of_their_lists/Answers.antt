use Rattle.rz_laws.proofs.Again.{admitted_again}
use Rattle.rz_laws.proofs.fork.written_forks_are_of_their_lists.Goals as goal

pub returns : goal.returns
returns c = admitted_again
