use Rattle.rz_stmt_brackets.proofs.EveryBracket.{every_bracket, every_parting}
use Rattle.rz_stmt_brackets.proofs.laws.partings_are_decided.Goals as goal

pub returns-clause-first : goal.returns-clause-first
returns-clause-first c = every_parting

pub returns-clause-within : goal.returns-clause-within
returns-clause-within c = every_bracket
