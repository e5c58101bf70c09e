use Rattle.rz_types_fields.proofs.Fronts.{back_all, back_more, back_none}
use Rattle.rz_types_fields.proofs.names.tell_counts.Goals as goal

pub loop-later-init : goal.loop-later-init
loop-later-init c = back_none c.args.fields.now c.args.notes.now.items

pub loop-later-preserved : goal.loop-later-preserved
loop-later-preserved c =
    back_more c.args.fields.now c.args.notes.now.items c.loop-later.later c.index-fields-fields.result c.loop-later.notes.items c.tell_count.new.notes.items
    c.loop-later-test.true c.index-fields-fields.is c.loop-later.invariant c.in_ok-tell_count.ensures

pub returns : goal.returns
returns c = back_all c.args.fields.now c.args.notes.now.items c.loop-later.later c.loop-later.notes.items c.loop-later-test.false c.loop-later.invariant
