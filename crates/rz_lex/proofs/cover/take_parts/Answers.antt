use Rattle.rz_lex.proofs.RunsAhead.{part_taken, plain_taken}
use Rattle.rz_lex.proofs.cover.take_parts.Goals as goal

pub returns-then-not-is_empty-clause-taken : goal.returns-then-not-is_empty-clause-taken
returns-then-not-is_empty-clause-taken c = plain_taken _ _ _ _ _ c.plain_run.ensures.run c.in_ok-append.ensures.ok

pub returns-clause-taken : goal.returns-clause-taken
returns-clause-taken c = part_taken _ _ _ _ (rw c.in-Some.is at c.in_ok-rest.ensures.taken)
