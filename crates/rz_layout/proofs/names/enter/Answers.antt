use Rattle.std.proofs.Common.{◌≡◌, ap, ◌∙◌}
use Rattle.rz_types_fields.proofs.Fronts.{front_known}
use Rattle.rz_types_fields.specs.Field.{plain_body}
use Rattle.rz_types_fields.specs.Known.{known, which_of}
use Rattle.rz_types_fields.specs.Laid.{counted, entered}
use Rattle.rz_types_fields.specs.Passed.{declares}
use Rattle.rz_layout.specs.Laid.{IsEntered, IsNotedBy}
use Rattle.rz_layout.proofs.Noted.{entered_more}
use Rattle.rz_layout.proofs.Stores.{on_ok}
use Rattle.rz_layout.proofs.names.enter.Goals as goal

pub returns-clause-known : goal.returns-clause-known
returns-clause-known c =
    let which = which_of c.args.which in
    let body = plain_body c.args.fields.now in
    let old = c.args.notes.now.items in
    let mid = c.note_front.new.notes.items in
    on_ok c.count_rows.result (known c.count_rows.new.notes.items ≡ counted body c.args.row.now (known mid))
    (known c.count_rows.new.notes.items ≡ entered which body c.args.row.now (known old))
    (λ is. is ∙ ap (counted body c.args.row.now) (front_known which body old mid c.in_ok-note_front.ensures)) c.count_rows.ensures.known

pub returns-clause-noted : goal.returns-clause-noted
returns-clause-noted c =
    let which = which_of c.args.which in
    let body = plain_body c.args.fields.now in
    let old = c.args.notes.now.items in
    let mid = c.note_front.new.notes.items in
    on_ok c.count_rows.result (IsNotedBy (declares body) mid c.count_rows.new.notes.items) (IsEntered which body old c.count_rows.new.notes.items)
    (λ it. entered_more which body old mid c.count_rows.new.notes.items c.in_ok-note_front.ensures it) c.count_rows.ensures.noted
