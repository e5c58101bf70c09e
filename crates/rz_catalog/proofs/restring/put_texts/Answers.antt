use Rattle.std.proofs.Common.{◌∷◌, ℕ, List, Option, Some, None, Ok, ap, subst}
use Rattle.rz_core.specs.Decided.{Decided}
use Rattle.rz_core.specs.Stop.{Meets}
use Rattle.rz_types.specs.Template.{template_of}
use Rattle.rz_types_fields.specs.declared.tree.Tree.{Tree}
use Rattle.rz_catalog.specs.Held.{IsPutUnder}
use Rattle.rz_catalog.proofs.Few.{few_told}
use Rattle.rz_catalog.proofs.Told.{own_bytes, one_row, told_is_row, HasRow}
use Rattle.rz_catalog.proofs.restring.put_texts.Goals as goal

pub change_row-requires-clause-row : goal.change_row-requires-clause-row
change_row-requires-clause-row c =
    let body = template_of c.args.template.now in
    told_is_row c.spelled_rows_are_rows.ensures.plainly c.args.facts.now body c.in-Some.row c.as_slice.result.now
    (subst (Decided (HasRow (Some body) c.args.facts.now c.as_slice.result.now)) c.in-Some.is c.in_ok-row.ensures.told)

pub change_row-requires-clause-few : goal.change_row-requires-clause-few
change_row-requires-clause-few c =
    let body = template_of c.args.template.now in
    few_told (Some body) c.args.facts.now c.as_slice.result.now c.in-Some.row
    (subst (Decided (HasRow (Some body) c.args.facts.now c.as_slice.result.now)) c.in-Some.is c.in_ok-row.ensures.told)

pub returns-in-Some : goal.returns-in-Some
returns-in-Some c row others decided is =
    let body = template_of c.args.template.now in
    let told : Decided (HasRow (Some body) c.args.facts.now c.args.resource.now.bytes) (Some c.in-Some.row) =
    subst (λ (bytes : List ℕ). Decided (HasRow (Some body) c.args.facts.now bytes) (Some c.in-Some.row)) c.as_slice.ensures
    (subst (Decided (HasRow (Some body) c.args.facts.now c.as_slice.result.now)) c.in-Some.is c.in_ok-row.ensures.told) in
    subst (λ (tree : Option (List Tree)). Meets c.change_row.result (IsPutUnder (Some body) c.args.facts.now c.args.resource.now tree (c.args.first.now ∷ others)))
    (one_row (Some body) c.args.facts.now c.args.resource.now.bytes c.one_tree.ensures (Some c.in-Some.row) row told decided) (c.change_row.ensures others is)

pub returns-in_ok-with_bytes-in-None : goal.returns-in_ok-with_bytes-in-None
returns-in_ok-with_bytes-in-None c row others decided is =
    let body = template_of c.args.template.now in
    let told : Decided (HasRow (Some body) c.args.facts.now c.args.resource.now.bytes) None =
    subst (λ (bytes : List ℕ). Decided (HasRow (Some body) c.args.facts.now bytes) None) c.as_slice.ensures
    (subst (Decided (HasRow (Some body) c.args.facts.now c.as_slice.result.now)) c.in-None.is c.in_ok-row.ensures.told) in
    let copy = c.in_ok-with_bytes-in-None.field-0 in
    subst (λ (tree : Option (List Tree)). IsPutUnder (Some body) c.args.facts.now c.args.resource.now tree (c.args.first.now ∷ others) (Ok copy))
    (one_row (Some body) c.args.facts.now c.args.resource.now.bytes c.one_tree.ensures None row told decided)
    (ap (λ r. Ok r) (own_bytes c.args.resource.now copy c.as_slice-in-None.result.now c.in_ok-with_bytes-in-None.ensures c.as_slice-in-None.ensures))
