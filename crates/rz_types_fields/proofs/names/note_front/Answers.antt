use Rattle.rz_types_fields.proofs.Fronts.{front_is}
use Rattle.rz_types_fields.specs.Field.{plain_body}
use Rattle.rz_types_fields.specs.Known.{which_of}
use Rattle.rz_types_fields.proofs.names.note_front.Goals as goal

pub returns : goal.returns
returns c =
    front_is (which_of c.args.which) (plain_body c.args.fields.now) c.args.notes.now.items c.note_number.new.notes.items c.hide_names.new.notes.items
    c.tell_counts.new.notes.items c.in_ok-note_number.ensures c.in_ok-hide_names.ensures c.in_ok-tell_counts.ensures
