use Rattle.std.proofs.Common.{subst}
use Rattle.std.specs.List.{AllByRecursion}
use Rattle.rz_fork.specs.Contents.{FitsFork, Fork}
use Rattle.rz_fork.proofs.view.ForkView.fits.Goals as goal

pub returns : goal.returns
returns c = subst (λ (fork : Fork). AllByRecursion FitsFork fork.list) c.self.view_is c.self.invariant.0.fits
