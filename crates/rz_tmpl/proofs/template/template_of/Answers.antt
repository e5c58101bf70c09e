use Rattle.std.proofs.Common.{◌≡◌, ◌+◌, ◌^◌, ◌≤◌, true, List, sym, ap, subst, ◌∙◌}
use Rattle.rz_tmpl.specs.Parts.{starts_in}
use Rattle.rz_tmpl.proofs.Whole.{are_whole, few_lists}
use Rattle.rz_tmpl.proofs.template.template_of.Goals as goal
use Rattle.rz_tmpl.specs.declared.entry.Entry.{Entry}
use Rattle.rz_tmpl.specs.declared.closing.Closing.{Closing}
use Rattle.rz_types.specs.Readable.{is_readable}
use Rattle.rz_types.specs.Rules.{keeps_rules}
use Rattle.rz_types_fields.specs.Field.{PlainBody}
use Rattle.rz_types_fields.specs.Shape.{is_well_shaped}

pub of-requires-clause-shaped : goal.of-requires-clause-shaped
of-requires-clause-shaped c =
    let cut = are_whole c.args.bytes.now c.in-Ok.entries c.in-Ok.ensures in
    let few = few_lists c.args.bytes.now c.in-Ok.entries cut (subst (λ (l : List Entry). 1 + starts_in l ≤ 2 ^ 64) c.as_slice.ensures c.in_ok-part-in-Ok.ensures.few) in
    subst (λ (body : PlainBody). is_well_shaped body ≡ true) (sym (c.into_body.ensures ∙ (c.in_ok-part-in-Ok.ensures.part cut.items (c.as_slice.ensures ∙ cut.are)).body))
    (c.tmpl_bodies_are_templates.ensures.shaped cut.items cut.kept few)

pub of-requires-clause-kept : goal.of-requires-clause-kept
of-requires-clause-kept c =
    let cut = are_whole c.args.bytes.now c.in-Ok.entries c.in-Ok.ensures in
    let few = few_lists c.args.bytes.now c.in-Ok.entries cut (subst (λ (l : List Entry). 1 + starts_in l ≤ 2 ^ 64) c.as_slice.ensures c.in_ok-part-in-Ok.ensures.few) in
    subst (λ (body : PlainBody). keeps_rules body ≡ true) (sym (c.into_body.ensures ∙ (c.in_ok-part-in-Ok.ensures.part cut.items (c.as_slice.ensures ∙ cut.are)).body))
    (c.tmpl_bodies_are_templates.ensures.kept cut.items cut.kept cut.ends few)

pub of-requires-clause-read : goal.of-requires-clause-read
of-requires-clause-read c =
    let cut = are_whole c.args.bytes.now c.in-Ok.entries c.in-Ok.ensures in
    let part = c.in_ok-part-in-Ok.ensures.part cut.items (c.as_slice.ensures ∙ cut.are) in
    ap (λ (closing : Closing). closing.closed) part.closing
    ∙ sym (ap is_readable (c.into_body.ensures ∙ part.body) ∙ c.closed_templates_are_readable.ensures cut.items cut.kept cut.ends)
