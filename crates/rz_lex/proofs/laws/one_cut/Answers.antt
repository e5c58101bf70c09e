use Rattle.rz_lex.proofs.OneWay.{one_list, one_fault, not_both}
use Rattle.rz_lex.proofs.laws.one_cut.Goals as goal

pub returns-clause-tokens : goal.returns-clause-tokens
returns-clause-tokens c = one_list

pub returns-clause-fault : goal.returns-clause-fault
returns-clause-fault c = one_fault

pub returns-clause-not_both : goal.returns-clause-not_both
returns-clause-not_both c = not_both
