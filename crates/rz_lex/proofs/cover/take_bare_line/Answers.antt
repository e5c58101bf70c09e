use Rattle.rz_lex.proofs.BareLines.{line_taken, run_moves}
use Rattle.rz_lex.proofs.cover.take_bare_line.Goals as goal

pub returns-in_ok-of-in-Some-clause-taken : goal.returns-in_ok-of-in-Some-clause-taken
returns-in_ok-of-in-Some-clause-taken c = line_taken _ _ _ _ c.in-Some.ensures.run c.in-Some.ensures.end c.in_ok-of-in-Some.ensures

pub returns-in_ok-of-in-Some-clause-moved : goal.returns-in_ok-of-in-Some-clause-moved
returns-in_ok-of-in-Some-clause-moved c = run_moves _ _ _ _ _ _ c.in-Some.ensures.run c.in-Some.ensures.size
