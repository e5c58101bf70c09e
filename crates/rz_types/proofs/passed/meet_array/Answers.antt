use Rattle.std.proofs.Common.{sym, ap, subst}
use Rattle.rz_types_fields.specs.Field.{plain_body, Array, PlainBody, PlainField}
use Rattle.rz_types_fields.specs.Passed.{gives_count, gives_key, gives_rows}
use Rattle.rz_types_fields.specs.declared.field.Field.TheViews.{out-ArrayField}
use Rattle.rz_types_fields.proofs.Bodies.{array_is}
use Rattle.rz_types.specs.Notes.{Meets}
use Rattle.rz_types.proofs.Noted.{meets_both}
use Rattle.rz_types.proofs.passed.meet_array.Goals as goal

pub returns : goal.returns
returns c =
    let array = out-ArrayField c.args.array.now in
    let row = plain_body c.as_slice.result.now in
    let rows = c.in_ok-note_rows.ensures in
    subst (λ (field : PlainField). Meets (gives_key field) c.args.met.now.items c.note_rows.new.notes.items) (sym (array_is c.args.array.now))
    (subst (λ (body : PlainBody). Meets (gives_key (Array array.name array.count body)) c.args.met.now.items c.note_rows.new.notes.items) (ap plain_body c.as_slice.ensures)
    (meets_both (gives_count array.name) (gives_rows row) c.args.met.now.items c.meet_count.new.met.items c.note_rows.new.notes.items
    c.in_ok-meet_count.ensures (rows.more, rows.grew, rows.all_met)))
