use Rattle.std.proofs.Common.{Bool, subst}
use Rattle.std.specs.Prelude.{IfOk, option_map}
use Rattle.rz_core.specs.Decided.{Decided}
use Rattle.rz_stmt_items.specs.Item.{plain_item}
use Rattle.rz_stmt_items.specs.Simple.{IsSimpleBy}
use Rattle.rz_stmt_items.proofs.simple.read_parts.Goals as goal

pub returns-then-begins_text : goal.returns-then-begins_text
returns-then-begins_text c =
    subst (λ (b : Bool). IfOk c.read_text.result (λ item. Decided (IsSimpleBy b c.args.mark c.args.tokens.now) (option_map plain_item item)))
    c.if-begins_text.ensures c.read_text.ensures

pub returns-else-begins_text : goal.returns-else-begins_text
returns-else-begins_text c =
    subst (λ (b : Bool). IfOk c.read_number.result (λ item. Decided (IsSimpleBy b c.args.mark c.args.tokens.now) (option_map plain_item item)))
    c.if-begins_text.ensures c.read_number.ensures
