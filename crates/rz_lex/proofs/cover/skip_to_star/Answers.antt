use Rattle.rz_lex.proofs.RunsAhead.{close_same}
use Rattle.rz_lex.proofs.cover.skip_to_star.Goals as goal

pub returns-clause-rest : goal.returns-clause-rest
returns-clause-rest c = close_same _ _ _ c.unbroken_run.ensures.run
