use Rattle.std.proofs.Common.{subst}
use Rattle.rz_core.proofs.Tests.{none_some}
use Rattle.rz_stmt_brackets.specs.Statements.{is_empty}
use Rattle.rz_stmt_data.proofs.Answering.{found_so}
use Rattle.rz_stmt_lists.proofs.Parts.{of_type_after}
use Rattle.rz_stmt_lists.proofs.Picks.{one_pick}
use Rattle.rz_stmt_lists.specs.Include.{part_of}
use Rattle.rz_stmt_lists.specs.Pick.{pick_of, IsPicked, Pick}
use Rattle.rz_stmt_lists.specs.Steps.{held_maybe, IsGoneOn, IsOfType}
use Rattle.rz_stmt_lists.proofs.include.read_of_type.Goals as goal

pub returns-in_default : goal.returns-in_default
returns-in_default c part is = none_some (is.0, is.1) (c.in_default.ensures.every (is.0, is.1) is.3)

pub returns-in-Some-2 : goal.returns-in-Some-2
returns-in-Some-2 c =
    let tokens = c.args.tokens.now in
    let maybe = held_maybe c.in-Some.maybe in
    let picked : IsPicked maybe.0 (pick_of c.in-Some-2.pick) = rw c.in-Some-2.is at c.in_ok-pick.ensures in
    found_so part_of (IsOfType c.args.kind.code tokens) (IsGoneOn (is_empty maybe.1) c.args.kind.code (pick_of c.in-Some-2.pick) maybe.1)
    (λ part is. (maybe.0, maybe.1, pick_of c.in-Some-2.pick, c.in-Some.ensures.found, picked, is))
    (λ part is.
    let it = of_type_after c.args.kind.code tokens part is maybe c.in-Some.ensures.every in
    subst (λ (p : Pick). IsGoneOn (is_empty maybe.1) c.args.kind.code p maybe.1 part)
    (one_pick c.one_expression.ensures.expression maybe.0 it.0 (pick_of c.in-Some-2.pick) it.1 picked) it.2)
    c.read_gone_on.result c.read_gone_on.ensures

pub returns-in-None : goal.returns-in-None
returns-in-None c part is =
    let it = of_type_after c.args.kind.code c.args.tokens.now part is (held_maybe c.in-Some.maybe) c.in-Some.ensures.every in
    let never = rw c.in-None.is at c.in_ok-pick.ensures in
    never it.0 it.1
