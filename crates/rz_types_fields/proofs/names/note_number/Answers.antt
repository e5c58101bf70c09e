use Rattle.std.proofs.Common.{List, Option, Some, sym, subst}
use Rattle.std.specs.Prelude.{pos, if◌then◌else◌}
use Rattle.rz_core.specs.declared.resource.Word.{Word}
use Rattle.rz_types_fields.proofs.Fronts.{adds_none, adds_one, number}
use Rattle.rz_types_fields.specs.Known.{which_of, Adds}
use Rattle.rz_types_fields.specs.RowLabels.{numbers_row}
use Rattle.rz_types_fields.specs.declared.names.InRow.{InRow}
use Rattle.rz_types_fields.specs.declared.names.Note.{Note}
use Rattle.rz_types_fields.proofs.names.note_number.Goals as goal

-- in a row of an array with or without a name
abbrev InRowOf : List Note → List Note → InRow → Option Word → Type 0
InRowOf old new row name = Adds (λ key before. if numbers_row name key then Some (pos row.number) else before) (λ key before. before) old new

pub returns-in_default : goal.returns-in_default
returns-in_default c =
    let items = c.args.notes.now.items in
    subst (λ (which : Option InRow). Adds (number (which_of which)) (λ key before. before) items items) (sym c.in_default.is) (adds_none items)

pub returns-in_default-array : goal.returns-in_default-array
returns-in_default-array c =
    let items = c.args.notes.now.items in
    subst (λ (which : Option InRow). Adds (number (which_of which)) (λ key before. before) items items) (sym c.in-Some.is)
    (subst (InRowOf items items c.in-Some.row) (sym c.in_default-array.is) (adds_none items))

pub returns : goal.returns
returns c =
    let items = c.args.notes.now.items in
    let new = c.push.new.self.items in
    subst (λ (which : Option InRow). Adds (number (which_of which)) (λ key before. before) items new) (sym c.in-Some.is)
    (subst (InRowOf items new c.in-Some.row) (sym c.in-Some-array.is) (adds_one items new _ c.in_ok-push.ensures.items))
