use Rattle.rz_tmpl.proofs.Fronts.{breaks, ends, few, goes_on}
use Rattle.rz_tmpl.proofs.read.entries.Goals as goal

pub returns-in-Err : goal.returns-in-Err
returns-in-Err c = breaks c.args.bytes.now c.loop-number.rest.now c.loop-number.bodies c.loop-number.entries c.in-Err.number c.loop-number.invariant c.in-Err.ensures

pub returns-in-Ok-None : goal.returns-in-Ok-None
returns-in-Ok-None c =
    ends c.args.bytes.now c.loop-number.rest.now c.loop-number.bodies c.loop-number.entries c.loop-number.invariant (rw c.in-Ok-None.field-0-is at c.in-Ok-None.ensures)

pub take-requires-clause-few : goal.take-requires-clause-few
take-requires-clause-few c = few c.args.bytes.now c.loop-number.rest.now c.loop-number.bodies c.loop-number.entries c.loop-number.invariant

pub loop-number-preserved : goal.loop-number-preserved
loop-number-preserved c =
    goes_on c.args.bytes.now c.loop-number.rest.now c.rest_at-rest.result.now c.loop-number.bodies c.take.new.self c.in-Ok-Some.next c.loop-number.entries c.push.new.self
    c.loop-number.invariant (rw c.in-Ok-Some.field-0-is at c.in-Ok-Some.ensures) c.take.ensures c.rest_at-rest.ensures c.in_ok-push-in-Ok-Some.ensures.ok
