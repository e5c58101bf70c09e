use Rattle.std.proofs.Common.{arith}
use Rattle.rz_fork.proofs.Order.{data_rest}
use Rattle.rz_fork.proofs.limit.data_length.Goals as goal

pub loop-resource-preserved : goal.loop-resource-preserved
loop-resource-preserved c =
    let rest = data_rest _ _ c.resource-item.result c.loop-resource-test.true c.resource-item.is in
    record { so_far = omega (arith, rest); bound = omega arith }
