use Rattle.std.proofs.Common.{sym, ap, ◌∙◌, Some, refl}
use Rattle.rz_fork.proofs.Items.{get-references}
use Rattle.rz_fork.proofs.admit.reference_of.Goals as goal

pub returns-clause-reference : goal.returns-clause-reference
returns-clause-reference c = get-references _ _ c.args.position _ c.requires.position refl ∙ ap (λ r. Some r) (sym c.reference_at.ensures.reference)
