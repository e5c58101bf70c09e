use Rattle.std.proofs.Common.{sym, ap, subst, ◌∙◌}
use Rattle.rz_core.proofs.Tests.{true_false}
use Rattle.rz_words.specs.declared.keyword.Keyword.TheVariants.{Delete}
use Rattle.rz_stmt_brackets.specs.Statements.{is_empty}
use Rattle.rz_stmt_lists.proofs.Clauses.{one_clause}
use Rattle.rz_stmt_lists.specs.Clause.{Clause}
use Rattle.rz_stmt_lists.specs.Pick.{IsPicked}
use Rattle.rz_stmt_lists.proofs.delete.read_delete.Goals as goal

pub returns-in_default : goal.returns-in_default
returns-in_default c delete is = c.in_default.ensures _ is.clause

pub returns-then-not-is_empty_statement : goal.returns-then-not-is_empty_statement
returns-then-not-is_empty_statement c delete is =
    let same = one_clause Delete c.args.tokens.now _ _ is.clause c.in-Some.ensures in
    true_false (sym is.ends ∙ ap (λ (clause : Clause). is_empty clause.rest) same ∙ sym c.if-not-is_empty_statement.ensures)

pub returns-in-None : goal.returns-in-None
returns-in-None c delete is =
    let same = one_clause Delete c.args.tokens.now _ _ is.clause c.in-Some.ensures in
    let never = rw c.in-None.is at c.in_ok-pick.ensures in
    never delete.pick (subst (λ (clause : Clause). IsPicked clause.inside delete.pick) same is.has_pick)
