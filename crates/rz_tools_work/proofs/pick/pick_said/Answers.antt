use Rattle.std.proofs.Common.{subst}
use Rattle.rz_core.specs.Stop.{Gives}
use Rattle.rz_core.specs.declared.facts.Facts.{Facts}
use Rattle.rz_stmt_lists.specs.Pick.{pick_of}
use Rattle.rz_tools_work.specs.Pick.{picked}
use Rattle.rz_tools_work.proofs.pick.pick_said.Goals as goal

pub returns-clause-pick : goal.returns-clause-pick
returns-clause-pick c = subst (λ (f : Facts). Gives (picked c.args.mark f (pick_of c.args.pick.now)) c.picked.result) c.head_facts-known.ensures c.picked.ensures.pick
