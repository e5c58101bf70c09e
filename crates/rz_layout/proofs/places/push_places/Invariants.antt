use Rattle.std.proofs.Common.{drop}
use Rattle.rz_types_fields.specs.Field.{plain_body}
use Rattle.rz_types_fields.specs.Known.{known}
use Rattle.rz_layout.specs.Places.{AreStanding}
use Rattle.rz_layout.proofs.Placed.{WithRest}
use Rattle.rz_layout.proofs.places.push_places.Given as goal

abbrev pub invariant-loop-field : goal.invariant-loop-field
invariant-loop-field l = record {
  stand : AreStanding (known l.notes.items) (plain_body (drop l.field-index l.fields));
  placed : WithRest (known l.notes.items) (plain_body l.fields) (plain_body (drop l.field-index l.fields)) l.fn.places.items l.places.items;
}
