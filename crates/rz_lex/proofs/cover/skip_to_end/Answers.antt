use Rattle.rz_lex.proofs.RunsAhead.{text_same}
use Rattle.rz_lex.proofs.cover.skip_to_end.Goals as goal

pub returns-clause-rest : goal.returns-clause-rest
returns-clause-rest c = text_same 10 _ _ _ c.unbroken_run.ensures.run
