use Rattle.rz_stmt_items.proofs.Matches.{one_answer, some_answer}
use Rattle.rz_stmt_items.proofs.laws.one_match.Goals as goal

pub returns-clause-some : goal.returns-clause-some
returns-clause-some c = λ known place body items keeps. some_answer known place body items (c.rules_hold_within.ensures body keeps)

pub returns-clause-one : goal.returns-clause-one
returns-clause-one c = one_answer
