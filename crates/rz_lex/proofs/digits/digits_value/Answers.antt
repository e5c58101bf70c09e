use Rattle.std.proofs.Common.{arith}
use Rattle.rz_lex.proofs.Spelling.{too_large}
use Rattle.rz_lex.proofs.digits.digits_value.Goals as goal

pub returns-then-next-gt4294967295 : goal.returns-then-next-gt4294967295
returns-then-next-gt4294967295 c = too_large c.args.base c.loop-rest.value c.loop-rest.rest.now c.args.digits.now (omega arith) (omega arith) c.loop-rest.invariant.value (omega arith)
