use Rattle.std.proofs.Common.{arith}
use Rattle.rz_lex.proofs.DigitTable.{table_is}
use Rattle.rz_lex.proofs.digits.digit_value.Goals as goal

pub returns : goal.returns
returns c = table_is c.args.byte (omega arith)
