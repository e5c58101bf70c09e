use Rattle.std.proofs.Common.{ap, length, ◌∙◌}
use Rattle.rz_fork.specs.Contents.{Fork}
use Rattle.rz_fork.proofs.Lending.{length_is}
use Rattle.rz_fork.proofs.view.ForkView.len.Goals as goal

pub returns : goal.returns
returns c =
    let v = c.self.inside in length_is v.bytes.now v.outline v.count c.self.invariant.0 ∙ ap (λ (fork : Fork). length fork.list) c.self.view_is
