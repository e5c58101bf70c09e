use Rattle.std.proofs.Common.{◌≤◌, length, Some, sym, ap, ◌∙◌, arith}
use Rattle.rz_types.specs.Template.{template_of}
use Rattle.rz_unlay.specs.Cursor.{reading}
use Rattle.rz_unlay.proofs.Tells.{every_told, none_told}
use Rattle.rz_unlay.proofs.resource.read.Goals as goal

pub returns-then-bytes-gt-MOST_BYTES-clause-told : goal.returns-then-bytes-gt-MOST_BYTES-clause-told
returns-then-bytes-gt-MOST_BYTES-clause-told c = λ row told.
    let few : length c.args.bytes.now ≤ 16777212 = c.spelled_bytes_are_few.ensures.plainly c.args.facts.now (template_of c.args.template.now) row c.args.bytes.now told.1 in
    let many = c.if-bytes-gt-MOST_BYTES.true in
    omega (arith, few, many)

pub returns-then-bytes-gt-MOST_BYTES-clause-every : goal.returns-then-bytes-gt-MOST_BYTES-clause-every
returns-then-bytes-gt-MOST_BYTES-clause-every c = λ row told. absurd (returns-then-bytes-gt-MOST_BYTES-clause-told c row told)

pub returns-in-Some-clause-every : goal.returns-in-Some-clause-every
returns-in-Some-clause-every c =
    let reads = sym c.is_readable.ensures ∙ c.if-not-is_readable.false in
    every_told c.args.facts.now (template_of c.args.template.now) c.args.bytes.now
    (λ row spells. c.plain_rows_are_read.ensures c.args.facts.now (template_of c.args.template.now) row c.args.bytes.now c.body.ensures.shaped c.body.ensures.kept reads spells)
    (Some c.in-Some.row) (sym c.in-Some.is ∙ c.in_ok-row.ensures ∙ ap (λ body. reading c.args.facts.now body c.args.bytes.now) c.body.ensures.body)

pub returns-in-Some-clause-row : goal.returns-in-Some-clause-row
returns-in-Some-clause-row c =
    let reads = sym c.is_readable.ensures ∙ c.if-not-is_readable.false in
    let few : length c.args.bytes.now ≤ 16777212 = (let not_many = c.if-bytes-gt-MOST_BYTES.false in omega (arith, not_many)) in
    c.spelled_rows_are_rows.ensures.plainly c.args.facts.now (template_of c.args.template.now) c.in-Some.row c.args.bytes.now
    (c.read_rows_are_plain.ensures c.args.facts.now (template_of c.args.template.now) c.in-Some.row c.args.bytes.now c.body.ensures.shaped c.body.ensures.kept reads few
    (λ k. (c.type_inv.bytes k).fits)
    (sym (ap (λ body. reading c.args.facts.now body c.args.bytes.now) c.body.ensures.body) ∙ sym c.in_ok-row.ensures ∙ c.in-Some.is))

pub returns-in-None-clause-told : goal.returns-in-None-clause-told
returns-in-None-clause-told c =
    let reads = sym c.is_readable.ensures ∙ c.if-not-is_readable.false in
    none_told c.args.facts.now (template_of c.args.template.now) c.args.bytes.now
    (λ row spells. c.plain_rows_are_read.ensures c.args.facts.now (template_of c.args.template.now) row c.args.bytes.now c.body.ensures.shaped c.body.ensures.kept reads spells)
    (sym c.in-None.is ∙ c.in_ok-row.ensures ∙ ap (λ body. reading c.args.facts.now body c.args.bytes.now) c.body.ensures.body)

pub returns-in-None-clause-every : goal.returns-in-None-clause-every
returns-in-None-clause-every c = λ row told. absurd (returns-in-None-clause-told c row told)
