use Rattle.std.proofs.Common.{arith}
use Rattle.rz_types_fields.specs.Known.{known}
use Rattle.rz_layout.proofs.Placed.{all_placed, field_placed, standing_next}
use Rattle.rz_layout.proofs.places.push_places.Goals as goal

pub loop-field-preserved : goal.loop-field-preserved
loop-field-preserved c = record {
  stand = (standing_next (known c.args.notes.now.items) c.args.fields.now c.loop-field.field-index c.field-item.result c.loop-field-test.true c.field-item.is c.loop-field.invariant.stand).1;
  placed = field_placed (known c.args.notes.now.items) c.args.fields.now c.loop-field.field-index c.field-item.result c.loop-field-test.true c.field-item.is c.args.places.now.items
      c.loop-field.places.items c.push_place.new.places.items c.in_ok-push_place.ensures c.loop-field.invariant.placed;
}

pub returns : goal.returns
returns c =
    all_placed (known c.args.notes.now.items) c.args.fields.now c.loop-field.field-index (omega (arith, c.loop-field-test.false)) c.args.places.now.items c.loop-field.places.items
    c.loop-field.invariant.placed
