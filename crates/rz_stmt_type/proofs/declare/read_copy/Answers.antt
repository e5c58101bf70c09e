use Rattle.std.proofs.Common.{subst}
use Rattle.rz_words.specs.declared.keyword.Keyword.TheVariants.{As}
use Rattle.rz_stmt_data.proofs.InFront.{one_typed}
use Rattle.rz_stmt_data.specs.Typed.{Typed}
use Rattle.rz_stmt_type.specs.DeclareSteps.{IsCopyId}
use Rattle.rz_stmt_type.proofs.declare.read_copy.Goals as goal

pub returns-in_default : goal.returns-in_default
returns-in_default c made is = c.in_default.ensures _ is.typed

pub returns-in-None : goal.returns-in-None
returns-in-None c made is =
    let same = one_typed As c.args.tokens.now _ _ is.typed c.in-Some.ensures in
    let never = rw c.in-None.is at c.in_ok-id.ensures in
    never is.id (subst (λ (t : Typed). IsCopyId t.behind is.id) same is.has_id)
