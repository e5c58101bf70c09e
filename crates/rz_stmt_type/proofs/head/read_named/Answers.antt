use Rattle.std.proofs.Common.{List, subst}
use Rattle.rz_lex.specs.declared.token.Token.{Token}
use Rattle.rz_stmt_type.specs.Head.{IsNamed}
use Rattle.rz_stmt_type.proofs.head.read_named.Goals as goal

pub returns-in_default-braced : goal.returns-in_default-braced
returns-in_default-braced c front is =
    let it = subst (λ (ts : List Token). IsNamed ts front) c.in-Some.ensures.cases.0 is in
    c.in_default-braced.ensures it.1 it.3
