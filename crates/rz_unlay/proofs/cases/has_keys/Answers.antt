use Rattle.std.proofs.Common.{◌∙◌}
use Rattle.rz_bits.specs.View.{seen}
use Rattle.rz_unlay.proofs.FieldSteps.{fits_next}
use Rattle.rz_unlay.proofs.KeySteps.{key_here, key_later, keys_more, no_key_here, width_known}
use Rattle.rz_unlay.proofs.cases.has_keys.Goals as goal

pub returns-then-is_key : goal.returns-then-is_key
returns-then-is_key c =
    c.has_field_key.ensures
    ∙ key_here (seen c.args.view.now) c.args.at c.args.row.now c.loop-field.field-index c.field-item.result c.loop-field-test.true c.field-item.is c.loop-field.before
    c.loop-field.invariant.key _ c.loop-field.invariant.keys c.if-is_key.ensures

pub loop-field-preserved : goal.loop-field-preserved
loop-field-preserved c =
    let all = seen c.args.view.now in
    let wide = width_known all c.args.at c.args.row.now c.loop-field.field-index c.field-item.result c.loop-field-test.true c.field-item.is c.loop-field.before
    c.loop-field.invariant.key c.if-is_key.ensures c.width_before.result c.width_before.ensures in
    record {
      keys = keys_more all c.args.at c.args.row.now c.loop-field.field-index c.field-item.result c.loop-field-test.true c.field-item.is c.loop-field.before _
          c.loop-field.invariant.keys c.width_before.result c.plus-before.result
          (no_key_here all c.args.at c.args.row.now c.loop-field.field-index c.field-item.result c.loop-field-test.true c.field-item.is c.loop-field.before
          c.loop-field.invariant.key c.if-is_key.ensures)
          wide c.plus-before.ensures;
      key = key_later all c.args.at c.args.row.now c.loop-field.field-index c.field-item.result c.loop-field-test.true c.field-item.is c.loop-field.before
          c.loop-field.invariant.key c.if-is_key.ensures c.width_before.result c.plus-before.result wide c.plus-before.ensures;
      fits = (fits_next c.args.row.now c.loop-field.field-index c.field-item.result c.loop-field-test.true c.field-item.is c.loop-field.invariant.fits).1;
    }
