use Rattle.std.proofs.Common.{List, subst}
use Rattle.rz_words.specs.declared.keyword.Keyword.TheVariants.{Data}
use Rattle.rz_lex.specs.declared.token.Token.{Token}
use Rattle.rz_stmt_data.specs.Raw.{IsInside}
use Rattle.rz_stmt_data.proofs.Frames.{same_inside}
use Rattle.rz_stmt_data.proofs.raw.read_raw.Goals as goal

pub returns-in_default : goal.returns-in_default
returns-in_default c raw is =
    let never = rw c.in_default.is at c.in_ok-framed.ensures in
    never _ is.frame

pub returns-in-Ok-None : goal.returns-in-Ok-None
returns-in-Ok-None c raw is =
    let never = rw c.in-Ok-None.field-0-is at c.in-Ok-None.ensures in
    let found = rw c.in-Some.is at c.in_ok-framed.ensures in
    never raw.texts (subst (λ (ts : List Token). IsInside ts raw.texts) (same_inside Data c.args.tokens.now _ _ is.frame found) is.texts)
