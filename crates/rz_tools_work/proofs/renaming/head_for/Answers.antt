use Rattle.std.proofs.Common.{subst}
use Rattle.rz_core.specs.Stop.{Gives}
use Rattle.rz_core.specs.declared.facts.Facts.{Facts}
use Rattle.rz_stmt_data.specs.Head.{head_of}
use Rattle.rz_tools_work.specs.Pick.{head_said}
use Rattle.rz_tools_work.proofs.renaming.head_for.Goals as goal

pub returns-clause-head : goal.returns-clause-head
returns-clause-head c =
    subst (λ (f : Facts). Gives (head_said c.args.mark f c.args.kind (head_of c.args.head.now)) c.head_said.result) c.in_ok-known.ensures c.head_said.ensures.head
