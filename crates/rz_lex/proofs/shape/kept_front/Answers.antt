use Rattle.std.proofs.Common.{arith, sym, take_all}
use Rattle.rz_lex.proofs.shape.kept_front.Goals as goal

pub returns-else-bytes-gt-LONGEST : goal.returns-else-bytes-gt-LONGEST
returns-else-bytes-gt-LONGEST c = sym (take_all 255 c.args.bytes.now (omega arith))
