use Rattle.std.proofs.Common.{length, arith}
use Rattle.rz_stmt_brackets.proofs.OneBracket.{one_bracketed}
use Rattle.rz_stmt_brackets.proofs.OneCut.{one_cut, one_parting, some_pieces}
use Rattle.rz_stmt_brackets.proofs.laws.pieces_are_cut.Goals as goal

pub returns-clause-some : goal.returns-clause-some
returns-clause-some c divider tokens = some_pieces divider (length tokens) tokens (omega arith)

pub returns-clause-one : goal.returns-clause-one
returns-clause-one c = one_cut

pub returns-clause-first : goal.returns-clause-first
returns-clause-first c = one_parting

pub returns-clause-within : goal.returns-clause-within
returns-clause-within c = one_bracketed
