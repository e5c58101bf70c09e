use Rattle.std.proofs.Common.{sym, ap, ◌∙◌, Some, refl}
use Rattle.rz_fork.proofs.Items.{get-entries}
use Rattle.rz_fork.proofs.admit.entry_of.Goals as goal

pub returns-clause-entry : goal.returns-clause-entry
returns-clause-entry c = get-entries _ _ c.args.position _ c.requires.position refl ∙ ap (λ t. Some t) (sym c.entry_at.ensures.entry)
