use Rattle.rz_unlay.proofs.FieldSteps.{fits_next}
use Rattle.rz_unlay.proofs.cases.bits_there.Goals as goal

pub field_bits-requires-clause-fits : goal.field_bits-requires-clause-fits
field_bits-requires-clause-fits c = (fits_next c.args.row.now c.loop-field.field-index c.field-item.result c.loop-field-test.true c.field-item.is c.loop-field.invariant).0

pub loop-field-preserved : goal.loop-field-preserved
loop-field-preserved c = (fits_next c.args.row.now c.loop-field.field-index c.field-item.result c.loop-field-test.true c.field-item.is c.loop-field.invariant).1
