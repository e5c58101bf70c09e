use Rattle.rz_types_fields.proofs.Fronts.{front_known, front_met}
use Rattle.rz_types_fields.specs.Field.{plain_body}
use Rattle.rz_types_fields.specs.Known.{which_of}
use Rattle.rz_unlay_pieces.proofs.names.enter.Goals as goal

pub returns-clause-known : goal.returns-clause-known
returns-clause-known c = front_known (which_of c.args.which) (plain_body c.args.fields.now) c.args.learnt.now.notes.items c.note_front.new.notes.items c.in_ok-note_front.ensures

pub returns-clause-met : goal.returns-clause-met
returns-clause-met c = front_met (which_of c.args.which) (plain_body c.args.fields.now) c.args.learnt.now.notes.items c.note_front.new.notes.items c.in_ok-note_front.ensures

pub returns-clause-grew : goal.returns-clause-grew
returns-clause-grew c = (c.in_ok-note_front.ensures.more, c.in_ok-note_front.ensures.grew)
