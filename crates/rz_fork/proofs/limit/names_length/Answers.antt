use Rattle.std.proofs.Common.{arith, subst}
use Rattle.rz_fork.specs.Image.{stored_name, AreNamed}
use Rattle.rz_fork.proofs.Order.{length_rest, rest_step}
use Rattle.rz_fork.proofs.limit.names_length.Goals as goal

pub stored_name_length-requires : goal.stored_name_length-requires
stored_name_length-requires c = (subst AreNamed (rest_step _ _ c.resource-item.result c.loop-resource-test.true c.resource-item.is) c.loop-resource.invariant.named).0

pub loop-resource-preserved : goal.loop-resource-preserved
loop-resource-preserved c =
    let rest = length_rest _ _ c.resource-item.result c.loop-resource-test.true c.resource-item.is stored_name in
    let named = subst AreNamed (rest_step _ _ c.resource-item.result c.loop-resource-test.true c.resource-item.is) c.loop-resource.invariant.named in
    record { so_far = omega (arith, rest, c.stored_name_length.ensures); bound = omega arith; named = named.1 }
