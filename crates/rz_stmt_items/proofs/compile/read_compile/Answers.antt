use Rattle.std.proofs.Common.{List, subst}
use Rattle.rz_words.specs.declared.keyword.Keyword.TheVariants.{Resource}
use Rattle.rz_lex.specs.declared.token.Token.{Token}
use Rattle.rz_stmt_data.proofs.Frames.{same_inside}
use Rattle.rz_stmt_items.specs.Items.{AreItems}
use Rattle.rz_stmt_items.proofs.compile.read_compile.Goals as goal

pub returns-in_default : goal.returns-in_default
returns-in_default c compile is =
    let never = rw c.in_default.is at c.in_ok-framed.ensures in
    never _ is.frame

pub returns-in-Ok-None : goal.returns-in-Ok-None
returns-in-Ok-None c compile is =
    let never = rw c.in-Ok-None.field-0-is at c.in-Ok-None.ensures in
    let found = rw c.in-Some.is at c.in_ok-framed.ensures in
    never compile.items (subst (λ (ts : List Token). AreItems ts compile.items) (same_inside Resource c.args.tokens.now _ _ is.frame found) is.items)
