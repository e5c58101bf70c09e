use Rattle.std.proofs.Common.{ap, arith}
use Rattle.rz_bridge.proofs.Loops.{entry_with, entries_first, found_stops, found_more, found_ends}
use Rattle.rz_bridge.proofs.entry.find_entry.Goals as goal

pub loop-position-init : goal.loop-position-init
loop-position-init c = ap (entry_with c.args.id) (entries_first c.args.bytes.now)

pub returns-then-entry-id : goal.returns-then-entry-id
returns-then-entry-id c =
    found_stops c.args.id c.args.bytes.now c.loop-position.position _ c.loop-position.invariant
    (omega (arith, c.loop-position-test.true, c.entry_count-position-end.ensures.count)) c.entry_at-entry.result c.entry_at-entry.ensures.entry c.if-entry-id.true

pub loop-position-preserved : goal.loop-position-preserved
loop-position-preserved c =
    found_more c.args.id c.args.bytes.now c.loop-position.position _ c.loop-position.invariant
    (omega (arith, c.loop-position-test.true, c.entry_count-position-end.ensures.count)) c.entry_at-entry.result c.entry_at-entry.ensures.entry c.if-entry-id.false

pub returns : goal.returns
returns c =
    found_ends c.args.id c.args.bytes.now c.loop-position.position _ c.loop-position.invariant
    (omega (arith, c.loop-position-test.false, c.entry_count-position-end.ensures.count))
