use Rattle.std.proofs.Common.{subst}
use Rattle.rz_words.specs.declared.keyword.Keyword.TheVariants.{Kind}
use Rattle.rz_stmt_data.proofs.InFront.{one_typed}
use Rattle.rz_stmt_data.specs.Typed.{Typed}
use Rattle.rz_stmt_type.specs.Declare.{IsScoped}
use Rattle.rz_stmt_type.proofs.declare.read_declare.Goals as goal

pub returns-in_default : goal.returns-in_default
returns-in_default c form is = c.in_default.ensures _ is.typed

pub returns-in-None : goal.returns-in-None
returns-in-None c form is =
    let same = one_typed Kind c.args.tokens.now _ _ is.typed c.in-Some.ensures in
    let never = rw c.in-None.is at c.in_ok-parts.ensures in
    never (form.scope, form.made) (subst (λ (t : Typed). IsScoped t.behind form.scope form.made) same is.scoped)

pub returns-in-Some-2 : goal.returns-in-Some-2
returns-in-Some-2 c = record { behind = c.in-Some.typed.behind.now; typed = c.in-Some.ensures; scoped = rw c.in-Some-2.is at c.in_ok-parts.ensures }
