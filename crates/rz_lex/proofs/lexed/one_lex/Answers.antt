use Rattle.rz_lex.proofs.OneLex.{one_text, one_failure, text_or_failure}
use Rattle.rz_lex.proofs.lexed.one_lex.Goals as goal

pub returns-clause-tokens : goal.returns-clause-tokens
returns-clause-tokens c = one_text

pub returns-clause-fault : goal.returns-clause-fault
returns-clause-fault c = one_failure

pub returns-clause-not_both : goal.returns-clause-not_both
returns-clause-not_both c = text_or_failure
