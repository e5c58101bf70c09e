use Rattle.std.proofs.Common.{subst}
use Rattle.rz_core.specs.Stop.{Gives}
use Rattle.rz_core.specs.declared.facts.Facts.{Facts}
use Rattle.rz_stmt_data.specs.Head.{head_of}
use Rattle.rz_tools_values.specs.Head.{known_by_head}
use Rattle.rz_tools_values.proofs.head.facts_of.Goals as goal

pub returns-clause-facts : goal.returns-clause-facts
returns-clause-facts c =
    subst (λ (f : Facts). Gives (known_by_head c.args.mark f (head_of c.args.head.now)) c.known_by_head.result) c.head_facts-begun.ensures c.known_by_head.ensures.known
