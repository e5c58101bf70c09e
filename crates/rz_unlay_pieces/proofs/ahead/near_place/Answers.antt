use Rattle.rz_expr.specs.Environment.{place_key}
use Rattle.rz_unlay_pieces.proofs.Labels.{near_behind, near_more}
use Rattle.rz_unlay_pieces.proofs.ahead.near_place.Goals as goal

pub returns-then-at-len-clause-place : goal.returns-then-at-len-clause-place
returns-then-at-len-clause-place c =
    near_behind c.args.len c.args.fields.now c.loop-field.field-index c.field-item.result c.loop-field-test.true c.field-item.is c.loop-field.at (place_key c.args.name.now.bytes) _ c.loop-field.invariant c.if-at-len.true

pub loop-field-preserved : goal.loop-field-preserved
loop-field-preserved c =
    near_more c.args.len c.args.fields.now c.loop-field.field-index c.field-item.result c.loop-field-test.true c.field-item.is c.loop-field.at (place_key c.args.name.now.bytes) _ c.loop-field.invariant
    c.in-Some.next c.requires c.if-is_label.ensures c.in-Some.ensures
