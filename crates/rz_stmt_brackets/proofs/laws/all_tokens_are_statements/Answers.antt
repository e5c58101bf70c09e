use Rattle.std.proofs.Common.{length, arith}
use Rattle.rz_stmt_brackets.proofs.Cut.{some_way}
use Rattle.rz_stmt_brackets.proofs.laws.all_tokens_are_statements.Goals as goal

pub returns : goal.returns
returns c tokens = some_way (length tokens) tokens (omega arith)
