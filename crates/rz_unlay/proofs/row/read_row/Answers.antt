use Rattle.std.proofs.Common.{◌≤◌, Bool, List, [], Option, IfSome, None, Some, length, sym, ap, ◌∙◌, subst}
use Rattle.rz_bits.specs.View.{seen}
use Rattle.rz_types_fields.specs.declared.field.Field.{Field}
use Rattle.rz_core.specs.declared.facts.Facts.{Facts}
use Rattle.rz_types_fields.specs.Field.{plain_body, PlainBody}
use Rattle.rz_types_fields.specs.Passed.{met_inside, nothing_passed, outside}
use Rattle.rz_types_fields.specs.Sees.{marked}
use Rattle.rz_unlay.specs.Came.{line_at, line_in}
use Rattle.rz_unlay.specs.Cursor.{body_found, ended}
use Rattle.rz_types_fields.specs.Front.{names_inside}
use Rattle.rz_types_fields.specs.Known.{known, met}
use Rattle.rz_unlay.specs.Pieces.{Found}
use Rattle.rz_unlay_pieces.specs.Few.{few}
use Rattle.rz_unlay.specs.Few.{line_count}
use Rattle.rz_unlay.specs.Fits.{AreFit}
use Rattle.rz_unlay.proofs.EndSteps.{ended_so, none_ended, not_ended}
use Rattle.rz_unlay.proofs.FieldSteps.{is_line}
use Rattle.rz_unlay.proofs.Fitting.{template_fits}
use Rattle.rz_unlay.proofs.row.read_row.Goals as goal

pub read_body-requires-clause-fits : goal.read_body-requires-clause-fits
read_body-requires-clause-fits c =
    subst (λ (fields : List Field). AreFit (plain_body fields)) (sym c.as_slice-fields.ensures)
    (template_fits (plain_body c.args.body.now) c.requires.shaped (c.rules_hold_within.ensures (plain_body c.args.body.now) c.requires.kept)
    (c.keys_stand_apart.ensures (plain_body c.args.body.now) c.requires.kept))

-- what is read of a body, in the bits of the resource
abbrev whole_found : Facts → PlainBody → List Bool → Option Found
whole_found known body all = body_found known all (met_inside body nothing_passed.met) body (names_inside None body outside) 0 []

pub returns-then-is_end : goal.returns-then-is_end
returns-then-is_end c =
    let all = seen c.over-view.result in
    let body = plain_body c.args.body.now in
    let came = c.in-Some.came in
    let line = is_line (plain_body c.as_slice-fields.result.now) c.read_body.new.learnt.marks _ (Some came) _ c.in-Some.is c.in_ok-came.ensures.row in
    ended_so all (whole_found c.args.facts.now body all) (line_in c.read_body.new.learnt.marks came line.0)
    (line.1
    ∙ (λ i. few line_count 1048576 (line_at c.args.facts.now all None (plain_body (c.as_slice-fields.ensures i)) (met (c.new-learnt.ensures.notes i)) (known (c.new-learnt.ensures.notes i)) 0 (marked 0 (c.new-learnt.ensures.marks i)))))
    (subst (λ o. IfSome o (λ r. r.after ≤ length all)) c.in-Some.is c.in_ok-came.ensures.within)
    (sym c.if-is_end.ensures)
    ∙ ap (λ (bits : List Bool). ended bits (whole_found c.args.facts.now body bits)) c.over-view.ensures.bits

pub returns-in-Some : goal.returns-in-Some
returns-in-Some c =
    let all = seen c.over-view.result in
    let body = plain_body c.args.body.now in
    let came = c.in-Some.came in
    let line = is_line (plain_body c.as_slice-fields.result.now) c.read_body.new.learnt.marks _ (Some came) _ c.in-Some.is c.in_ok-came.ensures.row in
    not_ended all (whole_found c.args.facts.now body all) (line_in c.read_body.new.learnt.marks came line.0)
    (line.1
    ∙ (λ i. few line_count 1048576 (line_at c.args.facts.now all None (plain_body (c.as_slice-fields.ensures i)) (met (c.new-learnt.ensures.notes i)) (known (c.new-learnt.ensures.notes i)) 0 (marked 0 (c.new-learnt.ensures.marks i)))))
    (subst (λ o. IfSome o (λ r. r.after ≤ length all)) c.in-Some.is c.in_ok-came.ensures.within)
    (sym c.if-is_end.ensures)
    ∙ ap (λ (bits : List Bool). ended bits (whole_found c.args.facts.now body bits)) c.over-view.ensures.bits

pub returns : goal.returns
returns c =
    let all = seen c.over-view.result in
    let body = plain_body c.args.body.now in
    none_ended all (whole_found c.args.facts.now body all)
    (is_line (plain_body c.as_slice-fields.result.now) c.read_body.new.learnt.marks _ None _ c.in-None.is c.in_ok-came.ensures.row
    ∙ (λ i. few line_count 1048576 (line_at c.args.facts.now all None (plain_body (c.as_slice-fields.ensures i)) (met (c.new-learnt.ensures.notes i)) (known (c.new-learnt.ensures.notes i)) 0 (marked 0 (c.new-learnt.ensures.marks i)))))
    ∙ ap (λ (bits : List Bool). ended bits (whole_found c.args.facts.now body bits)) c.over-view.ensures.bits
