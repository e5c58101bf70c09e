use Rattle.rz_fork.proofs.Admitted.{admitted_fits}
use Rattle.rz_fork.proofs.laws.admitted_forks_fit.Goals as goal

pub returns : goal.returns
returns c = admitted_fits
