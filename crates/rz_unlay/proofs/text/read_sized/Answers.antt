use Rattle.std.proofs.Common.{Some, sym, ap, ◌∙◌}
use Rattle.std.specs.Prelude.{option_map}
use Rattle.rz_types_fields.specs.Field.{plain_text}
use Rattle.rz_types_fields.specs.Known.{known, met}
use Rattle.rz_types_fields.specs.Sees.{marked}
use Rattle.rz_unlay.proofs.TextSteps.{after_text, text_goes}
use Rattle.rz_unlay.proofs.text.read_sized.Goals as goal
use Rattle.rz_unlay_pieces.specs.Came.{here_of}
use Rattle.rz_unlay_texts.specs.Texts.{came_value}

pub returns-in-Some-2-clause-step : goal.returns-in-Some-2-clause-step
returns-in-Some-2-clause-step c =
    let value = came_value c.in-Some-2.came in
    ap Some (after_text c.args.learnt.now c.text_came.result value c.args.at c.in-Some.count c.requires.marks c.text_came.ensures.value c.text_came.ensures.after)
    ∙ text_goes (here_of c.args.spot.now (met c.args.learnt.now.notes.items)) (plain_text c.args.field.now) c.args.size (known c.args.learnt.now.notes.items) c.args.at c.in-Some.count (marked c.args.at c.args.learnt.now.marks) value
    (sym c.in-Some.is ∙ c.in_ok-count.ensures ∙ c.room_for-room.ensures) (ap (option_map came_value) (sym c.in-Some-2.is) ∙ c.in_ok-came-in-Some.ensures.value)
