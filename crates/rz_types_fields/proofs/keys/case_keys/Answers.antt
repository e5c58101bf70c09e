use Rattle.rz_types_fields.proofs.Capped.{keys_more}
use Rattle.rz_types_fields.proofs.keys.case_keys.Goals as goal

pub loop-field-preserved : goal.loop-field-preserved
loop-field-preserved c =
    keys_more c.args.row.now c.loop-field.field-index c.field-item.result c.loop-field-test.true c.field-item.is c.loop-field.before c.plus-before.result c.fixed_width.result
    c.loop-field.keys.items c.push_key.new.keys.items c.loop-field.invariant c.in_ok-push_key.ensures c.fixed_width.ensures c.plus-before.ensures
