use Rattle.rz_types_fields.specs.Field.{plain_body}
use Rattle.rz_unlay_pieces.proofs.Claims.{rows_known, rows_met}
use Rattle.rz_unlay_pieces.proofs.names.learn_rows.Goals as goal

pub returns-clause-known : goal.returns-clause-known
returns-clause-known c = rows_known (plain_body c.args.row.now) c.args.count c.args.places.items c.args.learnt.now.notes.items c.note_rows.new.notes.items c.in_ok-note_rows.ensures

pub returns-clause-met : goal.returns-clause-met
returns-clause-met c = rows_met (plain_body c.args.row.now) c.args.count c.args.places.items c.args.learnt.now.notes.items c.note_rows.new.notes.items c.in_ok-note_rows.ensures

pub returns-clause-grew : goal.returns-clause-grew
returns-clause-grew c = (c.in_ok-note_rows.ensures.more, c.in_ok-note_rows.ensures.grew)
