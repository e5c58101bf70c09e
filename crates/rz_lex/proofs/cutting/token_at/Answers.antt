use Rattle.rz_lex.proofs.Steps.{bad_lexeme}
use Rattle.rz_lex.proofs.cutting.token_at.Goals as goal

pub returns-in-Err-clause-fault : goal.returns-in-Err-clause-fault
returns-in-Err-clause-fault c = bad_lexeme c.args.mark c.args.rest.now c.in-Some.lexeme.now c.in-Some.after.now c.in-Err.stop c.in-Some.ensures c.in-Err.ensures
