use Rattle.std.proofs.Common.{subst}
use Rattle.rz_words.specs.declared.keyword.Keyword.TheVariants.{Change, To}
use Rattle.rz_stmt_lists.proofs.Clauses.{one_clause}
use Rattle.rz_stmt_lists.proofs.Picks.{one_pick}
use Rattle.rz_stmt_lists.specs.Clause.{clause_of, Clause}
use Rattle.rz_stmt_lists.specs.Pick.{pick_of, IsPicked, Pick}
use Rattle.rz_stmt_lists.specs.Renaming.{IsRenaming, Renaming}
use Rattle.rz_stmt_lists.proofs.change.read_change.Goals as goal

pub returns-in_default : goal.returns-in_default
returns-in_default c change is = c.in_default.ensures _ is.clause

pub returns-in_default-2 : goal.returns-in_default-2
returns-in_default-2 c change is =
    let same = one_clause Change c.args.tokens.now _ _ is.clause c.in-Some.ensures in
    let never = rw c.in_default-2.is at c.in_ok-pick.ensures in
    never change.pick (subst (λ (clause : Clause). IsPicked clause.inside change.pick) same is.has_pick)

pub returns-in-Ok-None : goal.returns-in-Ok-None
returns-in-Ok-None c change is =
    let clause = clause_of c.in-Some.clause in
    let same = one_clause Change c.args.tokens.now _ _ is.clause c.in-Some.ensures in
    let new : Renaming = record { kind = change.new_kind; head = change.head } in
    let pick = one_pick c.one_expression.ensures.expression clause.inside change.pick (pick_of c.in-Some-2.pick)
    (subst (λ (clause : Clause). IsPicked clause.inside change.pick) same is.has_pick) (rw c.in-Some-2.is at c.in_ok-pick.ensures) in
    let never = rw c.in-Ok-None.field-0-is at c.in-Ok-None.ensures in
    never new (subst (λ (p : Pick). IsRenaming To p clause.rest new) pick (subst (λ (clause : Clause). IsRenaming To change.pick clause.rest new) same is.becomes))
