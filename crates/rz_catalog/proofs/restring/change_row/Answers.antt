use Rattle.std.proofs.Common.{◌≡◌, ◌∷◌, ◌∙◌, List, Some, None, Ok, Err, ap, subst}
use Rattle.rz_core.specs.Decided.{Decided}
use Rattle.rz_types.specs.Template.{template_of}
use Rattle.rz_catalog_text.specs.declared.entry.Entry.{Entry}
use Rattle.rz_catalog.specs.Apply.{placed, with_bytes}
use Rattle.rz_catalog.specs.Leaves.{leaves}
use Rattle.rz_catalog.proofs.Rows.{row_stays}
use Rattle.rz_catalog.proofs.Told.{changed_texts, HasRow}
use Rattle.rz_catalog.proofs.restring.change_row.Goals as goal

pub bytes_telling-told-requires : goal.bytes_telling-told-requires
bytes_telling-told-requires c = row_stays (template_of c.args.template.now) c.args.row.now c.in_ok-put.put.row c.in_ok-put.ensures.same c.requires.row

pub returns-in_ok-with_bytes-in-Some : goal.returns-in_ok-with_bytes-in-Some
returns-in_ok-with_bytes-in-Some c others is =
    let row = c.args.row.now in
    let mine = c.args.first.now ∷ others in
    let own : c.as_slice.result.now ≡ placed mine (leaves row) = c.as_slice.ensures ∙ c.in_ok-texts.ensures ∙ ap (λ (es : List Entry). placed es (leaves row)) is in
    let has = changed_texts mine row c.in_ok-put.put.row c.as_slice.result.now c.in_ok-put.put.rest.now c.in_ok-put.ensures.same c.in_ok-put.ensures.count own c.in_ok-put.ensures.texts in (
      c.in_ok-put.put.row,
      has,
      Some c.in-Some.bytes,
      subst (Decided (λ bytes. HasRow (Some (template_of c.args.template.now)) c.args.facts.now bytes c.in_ok-put.put.row)) c.in-Some.is c.in_ok-bytes.ensures,
      ap (λ r. Ok r) (c.in_ok-with_bytes-in-Some.ensures ∙ ap (with_bytes c.args.resource.now) c.as_slice-in-Some.ensures),
    )

pub returns-in-None : goal.returns-in-None
returns-in-None c others is =
    let row = c.args.row.now in
    let mine = c.args.first.now ∷ others in
    let own : c.as_slice.result.now ≡ placed mine (leaves row) = c.as_slice.ensures ∙ c.in_ok-texts.ensures ∙ ap (λ (es : List Entry). placed es (leaves row)) is in
    let has = changed_texts mine row c.in_ok-put.put.row c.as_slice.result.now c.in_ok-put.put.rest.now c.in_ok-put.ensures.same c.in_ok-put.ensures.count own c.in_ok-put.ensures.texts in (
      c.in_ok-put.put.row,
      has,
      None,
      subst (Decided (λ bytes. HasRow (Some (template_of c.args.template.now)) c.args.facts.now bytes c.in_ok-put.put.row)) c.in-None.is c.in_ok-bytes.ensures,
      ap (λ f. Err f) c.fault_of.ensures,
    )
