use Rattle.rz_lex.proofs.RunsAhead.{quote_same, run_copied}
use Rattle.rz_lex.specs.Runs.{is_unbroken}
use Rattle.rz_lex.proofs.cover.copy_run.Goals as goal

pub returns-clause-rest : goal.returns-clause-rest
returns-clause-rest c = quote_same c.args.quote _ _ _ c.unbroken_run.ensures.run

pub returns-clause-copied : goal.returns-clause-copied
returns-clause-copied c = run_copied (is_unbroken c.args.quote) _ _ _ _ _ c.unbroken_run.ensures.run c.in_ok-append.ensures.ok
