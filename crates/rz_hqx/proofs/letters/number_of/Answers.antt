use Rattle.std.proofs.Common.{arith}
use Rattle.rz_hqx.proofs.Sixes.{number_there, number_absent}
use Rattle.rz_hqx.proofs.letters.number_of.Goals as goal

pub returns-then-number-lt64-clause-number : goal.returns-then-number-lt64-clause-number
returns-then-number-lt64-clause-number c =
    number_there c.args.byte c.table_at-number.result (omega arith) c.table_at-number.ensures c.if-number-lt64.true

pub returns-clause-number : goal.returns-clause-number
returns-clause-number c =
    number_absent c.args.byte c.table_at-number.result (omega arith) c.table_at-number.ensures c.if-number-lt64.false
