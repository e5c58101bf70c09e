use denote.Param.Weighed.{at_most, most}
use Rattle.std.proofs.Common.{◌≡◌, ◌<◌, ℕ, List, length, get_or, None, Some, Result, Ok, arith, rules, refl, ap, sym, subst, ◌∙◌}
use Rattle.rz_layout.specs.declared.laid.Laid.{Laid}
use Rattle.rz_types_fields.specs.Known.{known}
use Rattle.rz_layout.proofs.Arrays.{array_is, ends_many, row_more, rows_noted, rows_sound}
use Rattle.rz_layout.proofs.LabelsStand.{body_stands}
use Rattle.std.specs.Prelude.{option_map}
use Rattle.rz_core.specs.Stop.{Gives, fault_seen, left}
use Rattle.rz_layout.specs.Fault.{refusal_of}
use Rattle.rz_layout.specs.Laid.{draft_of, IsNotedBy}
use Rattle.rz_types_fields.specs.declared.field.Field.{Field}
use Rattle.rz_types_fields.specs.declared.tree.Tree.{Tree}
use Rattle.rz_types_fields.proofs.Bodies.{case_is}
use Rattle.rz_types_fields.specs.Laid.{all_laid, field_laid, line_in, row_laid}
use Rattle.rz_types_fields.specs.Spells.{choice_in}
use Rattle.rz_types.proofs.Cased.{found_case}
use Rattle.rz_types.specs.Cases.{case_named}
use Rattle.rz_layout.specs.Sound.{AreSound}
use Rattle.rz_layout.proofs.Cased.{chosen_sound, laid_none, laid_some, row_there}
use Rattle.rz_types_fields.specs.declared.field.Field.TheViews.{out-ArrayField, size-Case, size-Field, size_is-Case}
use Rattle.rz_types_fields.specs.Field.{plain_body, plain_case, plain_cases, PlainCase, PlainField}
use Rattle.rz_layout.proofs.Steps.{array_kind}
use Rattle.rz_layout.proofs.Forms.{text_field}
use Rattle.rz_layout.proofs.Noted.{body_is, each_declares, ended_is, fields_next, noted_back, noted_both, noted_if, noted_wider, sound_next}
use Rattle.rz_layout.proofs.Steps.{text_kind}
use Rattle.rz_types_fields.specs.Field.{plain_field, plain_text}
use Rattle.rz_types_fields.specs.Passed.{declares, gives_key, gives_rows}
use Rattle.rz_types_fields.specs.Laid.{Draft, Refusal}
use Rattle.rz_layout.proofs.fields.+lay.Goals as goal

pub lay_field-returns-in-Array-clause-laid : goal.lay_field-returns-in-Array-clause-laid
lay_field-returns-in-Array-clause-laid t c =
    let value = option_map (λ v. v.now) c.args.value in
    let end = fault_seen refusal_of (left (draft_of c.lay_array.new.laid) c.lay_array.result) in
    let array = out-ArrayField c.in-Array.array in
    subst (λ (f : PlainField). Gives (field_laid c.args.facts.now (draft_of c.args.laid.now) f value) end) (sym (array_kind c.args.field.now c.in-Array.array c.in-Array.is))
    (subst (λ (rows : List (List Tree)). Gives (all_laid c.args.facts.now array.name (plain_body array.row) rows (draft_of c.args.laid.now)) end) c.rows_in.ensures
    c.lay_array.ensures.laid)

pub lay_field-returns-in-Text-clause-laid : goal.lay_field-returns-in-Text-clause-laid
lay_field-returns-in-Text-clause-laid t c =
    let value = option_map (λ v. v.now) c.args.value in
    let end = fault_seen refusal_of (left (draft_of c.lay_text.new.laid) c.lay_text.result) in
    subst (λ (r : Result Draft Refusal). Gives r end)
    (sym (ap (λ (f : PlainField). field_laid c.args.facts.now (draft_of c.args.laid.now) f value) (text_kind c.args.field.now c.in-Text.text c.in-Text.is)
    ∙ text_field c.args.facts.now (draft_of c.args.laid.now) (plain_text c.in-Text.text) value))
    c.lay_text.ensures.laid

pub lay_fields-loop-field-preserved : goal.lay_fields-loop-field-preserved
lay_fields-loop-field-preserved t c = record {
  laid = fields_next c.args.facts.now c.args.fields.now c.loop-field.field-index c.field-item.result c.loop-field-test.true c.field-item.is c.loop-field.values.now c.next_value-next.result.others.now _
      c.takes_value.result (draft_of c.loop-field.laid) (draft_of c.lay_field.new.laid) _ c.takes_value.ensures c.next_value-next.ensures.value c.next_value-next.ensures.others
      c.in-Ok.ensures.laid c.loop-field.invariant.laid;
  sound = sound_next c.args.fields.now c.loop-field.field-index c.field-item.result c.loop-field-test.true c.field-item.is c.loop-field.values.now c.next_value-next.result.others.now
      c.takes_value.result c.takes_value.ensures c.next_value-next.ensures.others c.loop-field.invariant.sound;
  notes = noted_both (declares (plain_body c.args.fields.now)) c.args.laid.now.notes.items c.loop-field.laid.notes.items c.lay_field.new.laid.notes.items c.loop-field.invariant.notes
      (noted_wider (gives_key (plain_field c.field-item.result)) (declares (plain_body c.args.fields.now)) c.loop-field.laid.notes.items c.lay_field.new.laid.notes.items
      (each_declares c.args.fields.now c.loop-field.field-index c.field-item.result c.loop-field-test.true c.field-item.is) c.in-Ok.ensures.notes);
  short = c.in-Ok.ensures.short;
}

pub lay_body-returns-clause-laid : goal.lay_body-returns-clause-laid
lay_body-returns-clause-laid t c =
    body_is c.args.facts.now c.args.fields c.args.which c.args.row.now c.args.laid.now
    (record {
      piece = c.args.laid.now.piece;
      bits = c.args.laid.now.bits;
      marks = c.args.laid.now.marks;
      notes = c.enter.new.notes;
      late = c.replace-outer.new.dest;
    })
    c.lay_fields.new.laid c.leave.new.laid refl refl refl c.in_ok-enter.ensures.known (c.replace-outer.ensures.after ∙ c.new.ensures) c.replace-outer.result
    c.in_ok-enter.ensures.noted c.in-Ok.ensures.notes c.replace-outer.ensures.value c.len-around.result (first_of (search rules, omega arith)) c.in_ok-leave.ensures c.in-Ok.ensures.laid

pub lay_field-returns-in-Align-clause-notes : goal.lay_field-returns-in-Align-clause-notes
lay_field-returns-in-Align-clause-notes t c =
    noted_if (gives_key (plain_field c.args.field.now)) c.args.laid.now.notes.items c.put_filler.new.self.notes.items c.put_filler.result c.put_filler.ensures.notes

pub lay_case-lay_body-requires : goal.lay_case-lay_body-requires
lay_case-lay_body-requires t c =
    let value = option_map (λ v. v.now) c.args.value in
    let one = c.index-cases-position.result in
    let found = found_case (choice_in value) c.choice_in.result.now c.args.cases.now c.in-Some.position one c.in-Some.ensures.within c.index-cases-position.is c.choice_in.ensures
    (c.in-Some.ensures.named c.requires.differ) in
    let sound = subst (λ (p : PlainCase). AreSound p.row (line_in value)) (case_is one) (chosen_sound (plain_cases c.args.cases.now) value (plain_case one) c.requires.sound found) in
    let deep = at_most size-Case c.args.cases.now c.in-Some.position one c.in-Some.ensures.within in
    let own = size_is-Case (get_or c.args.cases.now c.in-Some.position one) in
    let read = ap (most size-Field) c.as_slice.ensures in (
      omega (arith, deep, own, read),
      (
        subst (λ (row : List Tree). AreSound (plain_body c.as_slice.result.now) row) (sym c.line_in-row.ensures)
            (subst (λ (fields : List Field). AreSound (plain_body fields) (line_in value)) (sym (row_there c.as_slice.result.now c.args.cases.now c.in-Some.position one c.index-cases-position.is c.as_slice.ensures)) sound),
        c.requires.short,
      ),
    )

pub lay_case-returns-in-Some-clause-laid : goal.lay_case-returns-in-Some-clause-laid
lay_case-returns-in-Some-clause-laid t c =
    let value = option_map (λ v. v.now) c.args.value in
    let one = c.index-cases-position.result in
    let draft = draft_of c.args.laid.now in
    let facts = c.args.facts.now in
    let found = found_case (choice_in value) c.choice_in.result.now c.args.cases.now c.in-Some.position one c.in-Some.ensures.within c.index-cases-position.is c.choice_in.ensures
    (c.in-Some.ensures.named c.requires.differ) in
    subst (λ (r : Result Draft Refusal). Gives r (fault_seen refusal_of (left (draft_of c.lay_body.new.laid) c.lay_body.result)))
    (let row = row_there c.as_slice.result.now c.args.cases.now c.in-Some.position one c.index-cases-position.is c.as_slice.ensures in
    (λ i. row_laid facts None (plain_body (row i)) draft (c.line_in-row.ensures i))
    ∙ ap (λ (p : PlainCase). row_laid facts None p.row draft (line_in value)) (sym (case_is one))
    ∙ sym (laid_some facts draft value (plain_cases c.args.cases.now) (plain_case one) found))
    c.lay_body.ensures.laid

pub lay_case-returns-in-None-clause-laid : goal.lay_case-returns-in-None-clause-laid
lay_case-returns-in-None-clause-laid t c =
    let value = option_map (λ v. v.now) c.args.value in
    laid_none c.args.facts.now (draft_of c.args.laid.now) value (plain_cases c.args.cases.now)
    (ap (λ (n : List ℕ). case_named n (plain_cases c.args.cases.now)) (sym c.choice_in.ensures) ∙ c.in-None.ensures.named c.requires.differ)

pub lay_array_row-push_places-requires : goal.lay_array_row-push_places-requires
lay_array_row-push_places-requires t c = body_stands c.args.facts.now (plain_body c.args.fields.now) c.args.row.now _ (draft_of c.lay_fields.new.laid) c.in-Ok.ensures.laid

pub lay_array_row-returns-clause-laid : goal.lay_array_row-returns-clause-laid
lay_array_row-returns-clause-laid t c = (
  known c.lay_fields.new.laid.notes.items,
  ended_is c.args.facts.now c.args.fields (Some c.args.which) c.args.row.now c.args.laid.now
      (record {
        piece = c.args.laid.now.piece;
        bits = c.args.laid.now.bits;
        marks = c.args.laid.now.marks;
        notes = c.enter.new.notes;
        late = c.replace-outer.new.dest;
      })
      c.lay_fields.new.laid c.leave.new.laid refl refl refl c.in_ok-enter.ensures.known (c.replace-outer.ensures.after ∙ c.new.ensures) c.replace-outer.result
      c.in_ok-enter.ensures.noted c.in-Ok.ensures.notes c.replace-outer.ensures.value c.len-around.result (first_of (search rules, omega arith)) c.in_ok-leave.ensures c.in-Ok.ensures.laid,
  c.in_ok-push_places.ensures,
)

pub lay_rows-loop-before-preserved : goal.lay_rows-loop-before-preserved
lay_rows-loop-before-preserved t c =
    let facts = c.args.facts.now in
    let body = plain_body c.args.fields.now in
    let rows = c.args.rows.now in
    let i = c.loop-before.before in
    let line = c.as_slice-row.result.now in
    let less : i < length rows = c.loop-before-test.true in
    let item : line ≡ get_or rows i line = subst (λ (l : List Tree). l ≡ get_or rows i l) (sym c.as_slice-row.ensures) c.index-rows-before.is in
    record {
      laid = row_more facts c.args.name.now body rows (draft_of c.args.laid.now) i line less item (draft_of c.loop-before.laid) c.loop-before.places.items c.loop-before.invariant.laid
          (draft_of c.lay_array_row.new.laid) c.lay_array_row.new.places.items c.in-Ok.ensures.laid;
      sound = (rows_sound facts c.args.name.now body rows (draft_of c.args.laid.now) i line less item c.loop-before.invariant.sound).1;
      notes = c.in-Ok.ensures.notes ∙ c.loop-before.invariant.notes;
      short = c.in-Ok.ensures.short;
    }

pub lay_array-returns-clause-laid : goal.lay_array-returns-clause-laid
lay_array-returns-clause-laid t c =
    let after = c.lay_rows.new.laid in
    let new : Laid = record { piece = after.piece; bits = after.bits; marks = after.marks; notes = c.note_rows.new.notes; late = after.late } in
    let row = plain_body c.as_slice-fields.result.now in
    let draft = draft_of c.args.laid.now in
    let found = c.in-Ok.ensures.laid in
    subst (λ (fields : List Field). all_laid c.args.facts.now c.args.array.now.name (plain_body fields) c.args.rows.now draft ≡ Ok (draft_of new)) c.as_slice-fields.ensures
    (array_is c.args.facts.now c.args.array.now.name row c.args.rows.now draft after new _ _ found.0 refl refl refl refl c.in_ok-note_rows.ensures
    (ends_many c.args.facts.now c.args.array.now.name row c.args.rows.now draft (draft_of after) found.0 found.1 ∙ sym c.count_of.ensures) found.2 found.1)

pub lay_array-returns-clause-notes : goal.lay_array-returns-clause-notes
lay_array-returns-clause-notes t c =
    let after = c.lay_rows.new.laid in
    let row = plain_body c.as_slice-fields.result.now in
    let draft = draft_of c.args.laid.now in
    let found = c.in-Ok.ensures.laid in
    subst (λ (fields : List Field). IsNotedBy (gives_rows (plain_body fields)) c.args.laid.now.notes.items c.note_rows.new.notes.items) c.as_slice-fields.ensures
    (noted_back (gives_rows row) c.args.laid.now.notes.items after.notes.items c.note_rows.new.notes.items c.in-Ok.ensures.notes
    (rows_noted row _ _ after.notes.items c.note_rows.new.notes.items c.in_ok-note_rows.ensures found.0
    (ends_many c.args.facts.now c.args.array.now.name row c.args.rows.now draft (draft_of after) found.0 found.1 ∙ sym c.count_of.ensures) found.2))
