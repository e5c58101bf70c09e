use Rattle.rz_types_fields.proofs.Fronts.{front_all, front_more, front_none}
use Rattle.rz_types_fields.proofs.names.hide_names.Goals as goal

pub loop-field-init : goal.loop-field-init
loop-field-init c = front_none c.args.fields.now c.args.notes.now.items

pub loop-field-preserved : goal.loop-field-preserved
loop-field-preserved c =
    front_more c.args.fields.now c.args.notes.now.items c.loop-field.field-index c.field-item.result c.loop-field.notes.items c.hide_field.new.notes.items
    c.loop-field-test.true c.field-item.is c.loop-field.invariant c.in_ok-hide_field.ensures

pub returns : goal.returns
returns c = front_all c.args.fields.now c.args.notes.now.items c.loop-field.field-index c.loop-field.notes.items c.loop-field-test.false c.loop-field.invariant
