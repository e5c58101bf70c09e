use Rattle.std.proofs.Common.{sym, ap, subst, ◌∙◌}
use Rattle.rz_core.proofs.Tests.{true_false}
use Rattle.rz_stmt_brackets.specs.Statements.{is_empty}
use Rattle.rz_stmt_lists.proofs.Clauses.{one_clause}
use Rattle.rz_stmt_lists.specs.Clause.{Clause}
use Rattle.rz_stmt_lists.specs.Pick.{pick_of}
use Rattle.rz_stmt_lists.specs.Renaming.{IsNewHead}
use Rattle.rz_stmt_lists.proofs.renaming.read_renaming.Goals as goal

pub returns-in_default : goal.returns-in_default
returns-in_default c renaming is = c.in_default.ensures _ is.clause

pub returns-then-not-is_empty_statement : goal.returns-then-not-is_empty_statement
returns-then-not-is_empty_statement c renaming is =
    let same = one_clause c.args.keyword c.args.tokens.now _ _ is.clause c.in-Some.ensures in
    true_false (sym is.ends ∙ ap (λ (clause : Clause). is_empty clause.rest) same ∙ sym c.if-not-is_empty_statement.ensures)

pub returns-in-None : goal.returns-in-None
returns-in-None c renaming is =
    let same = one_clause c.args.keyword c.args.tokens.now _ _ is.clause c.in-Some.ensures in
    let never = rw c.in-None.is at c.in_ok-head.ensures in
    never renaming.head (subst (λ (clause : Clause). IsNewHead (pick_of c.args.pick.now) clause.inside renaming.head) same is.has_head)
