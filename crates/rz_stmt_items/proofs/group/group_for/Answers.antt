use Rattle.std.proofs.Common.{List, ap, sym, subst, ◌∙◌}
use Rattle.rz_core.specs.Stop.{Gives}
use Rattle.rz_stmt_items.specs.Item.{plain_item, plain_items, PlainItem}
use Rattle.rz_stmt_items.specs.Matched.{group_for, numbers_for}
use Rattle.rz_stmt_items.proofs.Given.{braced, listed}
use Rattle.rz_stmt_items.proofs.group.group_for.Goals as goal

pub returns-in-List : goal.returns-in-List
returns-in-List c =
    let inner = plain_items c.in-List.items in
    let is = ap plain_item c.in-List.is ∙ braced c.in-List.items c.in-List.mark in
    subst (λ (item : PlainItem). Gives (group_for c.args.facts.now c.args.position c.args.rect item) c.numbers_for.result) (sym is)
    (subst (λ (xs : List PlainItem). Gives (numbers_for c.args.facts.now c.args.rect c.in-List.mark xs) c.numbers_for.result)
    (ap plain_items c.as_slice.ensures ∙ sym (listed inner)) c.numbers_for.ensures)
