use Rattle.std.proofs.Common.{ap, ◌∙◌}
use Rattle.rz_fork.specs.Contents.{Fork}
use Rattle.rz_fork.proofs.Lending.{lent_list}
use Rattle.rz_fork.proofs.view.ForkView.walk.Goals as goal

pub returns : goal.returns
returns c =
    let v = c.self.inside in lent_list v.bytes.now v.outline v.count c.self.invariant.0 ∙ ap (λ (fork : Fork). fork.list) c.self.view_is
