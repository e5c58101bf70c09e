use Rattle.std.proofs.Common.{[], subst}
use Rattle.rz_core.specs.Resources.{KeysDiffer}
use Rattle.rz_fork.specs.Contents.{Fork}
use Rattle.rz_fork.proofs.view.ForkView.keys_differ.Goals as goal

pub returns : goal.returns
returns c = subst (λ (fork : Fork). KeysDiffer [] fork.list) c.self.view_is c.self.invariant.0.keys
