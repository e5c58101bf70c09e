use Rattle.std.proofs.Common.{ap, map, arith}
use Rattle.rz_core.specs.Lists.{first_of}
use Rattle.rz_bridge.specs.Apple.{entry_outside}
use Rattle.rz_bridge.proofs.Loops.{entries_first, fault_stops, fault_more, fault_ends}
use Rattle.rz_bridge.proofs.apple_rules.first_outside.Goals as goal

pub loop-position-init : goal.loop-position-init
loop-position-init c = ap (λ l. first_of (map (entry_outside c.args.bytes.now) l)) (entries_first c.args.bytes.now)

pub returns-in-Some-clause-first : goal.returns-in-Some-clause-first
returns-in-Some-clause-first c =
    fault_stops (entry_outside c.args.bytes.now) c.args.bytes.now c.loop-position.position _ c.loop-position.invariant
    (omega (arith, c.loop-position-test.true, c.entry_count-position-end.ensures.count)) c.entry_at.result c.entry_at.ensures.entry c.in-Some.fault c.in-Some.ensures.rule

pub loop-position-preserved : goal.loop-position-preserved
loop-position-preserved c =
    fault_more (entry_outside c.args.bytes.now) c.args.bytes.now c.loop-position.position _ c.loop-position.invariant
    (omega (arith, c.loop-position-test.true, c.entry_count-position-end.ensures.count)) c.entry_at.result c.entry_at.ensures.entry c.in_default.ensures.rule

pub returns-clause-first : goal.returns-clause-first
returns-clause-first c =
    fault_ends (entry_outside c.args.bytes.now) c.args.bytes.now c.loop-position.position _ c.loop-position.invariant
    (omega (arith, c.loop-position-test.false, c.entry_count-position-end.ensures.count))
