use Rattle.std.proofs.Common.{ℕ, List, Result, sym, ap, subst, ◌∙◌}
use Rattle.std.proofs.lemmas.Result.{err_from_is_err_and}
use Rattle.rz_core.proofs.Stops.{gives_stop}
use Rattle.rz_core.specs.Stop.{◌>>=◌, Gives}
use Rattle.rz_core.specs.declared.fault.Fault.{Fault}
use Rattle.rz_stmt_items.proofs.Mirror.{text_is}
use Rattle.rz_stmt_items.specs.Item.{plain_item, PlainItem}
use Rattle.rz_stmt_items.specs.Matched.{short_text, text_for}
use Rattle.rz_types.specs.Field.{plain_text}
use Rattle.rz_types_fields.specs.Text.{bytes_of, plain_parts}
use Rattle.rz_stmt_items.proofs.text.text_for.Goals as goal

pub returns-in_ok-bytes-in-Text : goal.returns-in_ok-bytes-in-Text
returns-in_ok-bytes-in-Text c =
    let text = plain_text c.args.field.now in
    let item = ap plain_item c.in-Text.is ∙ text_is c.in-Text.texts c.in-Text.mark in
    subst (λ (one : PlainItem). Gives (text_for c.args.facts.now c.args.position text one) c.short_text.result) (sym item)
    (subst (λ (answer : Result (List ℕ) Fault). Gives (answer >>= short_text text c.in-Text.mark) c.short_text.result) (sym c.in_ok-bytes-in-Text.ensures.value)
    c.short_text.ensures)

pub returns-in_err-bytes-in-Text : goal.returns-in_err-bytes-in-Text
returns-in_err-bytes-in-Text c =
    let text = plain_text c.args.field.now in
    let item = ap plain_item c.in-Text.is ∙ text_is c.in-Text.texts c.in-Text.mark in
    let p = err_from_is_err_and c.from_residual.result c.from_residual.ensures.1 in
    subst (λ (one : PlainItem). Gives (text_for c.args.facts.now c.args.position text one) c.from_residual.result) (sym item)
    (rw (p.1, p.2) (gives_stop (bytes_of c.in-Text.mark c.args.facts.now (plain_parts c.in-Text.texts)) (short_text text c.in-Text.mark)
    c.in_err-bytes-in-Text.field-0.0 c.in_err-bytes-in-Text.ensures.value))
