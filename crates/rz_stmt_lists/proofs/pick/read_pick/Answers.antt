use Rattle.std.proofs.Common.{Bool, subst}
use Rattle.std.specs.Prelude.{IfOk, option_map}
use Rattle.rz_core.specs.Decided.{Decided}
use Rattle.rz_stmt_lists.specs.Pick.{pick_of, IsPickBy}
use Rattle.rz_stmt_lists.proofs.pick.read_pick.Goals as goal

pub returns-then-begins_text : goal.returns-then-begins_text
returns-then-begins_text c =
    subst (λ (b : Bool). IfOk c.read_name.result (λ pick. Decided (IsPickBy b c.args.tokens.now) (option_map pick_of pick))) c.if-begins_text.ensures c.read_name.ensures

pub returns-else-begins_text : goal.returns-else-begins_text
returns-else-begins_text c =
    subst (λ (b : Bool). IfOk c.read_ids.result (λ pick. Decided (IsPickBy b c.args.tokens.now) (option_map pick_of pick))) c.if-begins_text.ensures c.read_ids.ensures
