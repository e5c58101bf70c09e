use Rattle.std.proofs.Common.{◌∙◌, ℕ, List, Some, sym, subst, Ok, Err}
use Rattle.std.proofs.lemmas.Option.{none-some, same_Some}
use Rattle.rz_core.proofs.Tests.{true_false}
use Rattle.rz_core.specs.Stop.{fault_seen, Gives}
use Rattle.rz_core.specs.declared.stop.Stop.{Stop}
use Rattle.rz_layout.specs.Fault.{refusal_of}
use Rattle.rz_layout.specs.declared.fault.LayFault.{LayFault}
use Rattle.rz_types.specs.Template.{template_of}
use Rattle.rz_catalog.proofs.Told.{compiled, its_bytes, never_refused, HasRow}
use Rattle.rz_catalog.proofs.restring.bytes_telling.Goals as goal

pub returns-in-Err-Refused : goal.returns-in-Err-Refused
returns-in-Err-Refused c bytes told =
    never_refused bytes (refusal_of c.in-Err-Refused.field-0-0)
    (subst (λ (stop : Stop LayFault). Gives {X = List ℕ} (Ok bytes) (fault_seen {X = List ℕ} refusal_of (Err stop))) c.in-Err-Refused.field-0-is
    (c.in-Err-Refused.ensures.every (Ok bytes) (compiled c.plain_rows_are_spelled.ensures c.args.facts.now (template_of c.args.template.now) c.args.row.now bytes told)))

pub returns-else-same_row : goal.returns-else-same_row
returns-else-same_row c bytes told =
    let body = template_of c.args.template.now in
    let here : HasRow (Some body) c.args.facts.now c.as_slice.result.now c.args.row.now =
    subst (λ (b : List ℕ). HasRow (Some body) c.args.facts.now b c.args.row.now) (sym c.as_slice.ensures)
    (its_bytes c.plain_rows_are_spelled.ensures c.args.facts.now body c.args.row.now c.in-Ok.bytes bytes (c.in-Ok.ensures.every (Ok bytes)) told) in
    let same = same_Some c.in-Some.again c.args.row.now (sym c.in-Some.is ∙ c.in_ok-again.ensures.every here.0 c.args.row.now here.1) in
    true_false (sym (c.same_row.ensures.1 same) ∙ c.if-same_row.false)

pub returns-in-None : goal.returns-in-None
returns-in-None c bytes told =
    let body = template_of c.args.template.now in
    let here : HasRow (Some body) c.args.facts.now c.as_slice.result.now c.args.row.now =
    subst (λ (b : List ℕ). HasRow (Some body) c.args.facts.now b c.args.row.now) (sym c.as_slice.ensures)
    (its_bytes c.plain_rows_are_spelled.ensures c.args.facts.now body c.args.row.now c.in-Ok.bytes bytes (c.in-Ok.ensures.every (Ok bytes)) told) in
    none-some c.args.row.now (sym c.in-None.is ∙ c.in_ok-again.ensures.every here.0 c.args.row.now here.1)
