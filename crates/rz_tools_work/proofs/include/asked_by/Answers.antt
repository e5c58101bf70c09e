use Rattle.std.proofs.Common.{◌≡◌, Ok, Err, sym, subst}
use Rattle.std.proofs.lemmas.Result.{err_from_is_err_and}
use Rattle.std.specs.Prelude.{option_map}
use Rattle.rz_core.specs.Stop.{Gives}
use Rattle.rz_stmt_data.specs.Head.{head_of}
use Rattle.rz_stmt_lists.specs.Include.{part_of}
use Rattle.rz_stmt_lists.specs.Pick.{pick_of}
use Rattle.rz_stmt_lists.specs.declared.include.IncludePart.{IncludePart}
use Rattle.rz_tools_values.specs.Lent.{lent_one}
use Rattle.rz_tools_work.specs.Include.{asked_by}
use Rattle.rz_tools_work.specs.declared.include.Asked.{Asked}
use Rattle.rz_tools_work.proofs.Asked.{asked_so, head_stop, one_stop}
use Rattle.rz_tools_work.proofs.include.asked_by.Goals as goal

pub returns-in_err-one-in-Renamed-clause-asked : goal.returns-in_err-one-in-Renamed-clause-asked
returns-in_err-one-in-Renamed-clause-asked c =
    let p = err_from_is_err_and c.from_residual-in_err-one-in-Renamed.result c.from_residual-in_err-one-in-Renamed.ensures.1 in
    rw (p.1, p.2) (subst (λ (p : IncludePart). Gives {X = Asked} (asked_by c.args.setting c.args.mark c.args.source.now.list (part_of p)) (Err c.in_err-one-in-Renamed.field-0.0)) (sym c.in-Renamed.is)
    (one_stop c.args.setting c.args.mark c.args.source.now.list c.in-Renamed.kind c.in-Renamed.new_kind (pick_of c.in-Renamed.pick) (option_map head_of c.in-Renamed.head)
    c.in_ok-pick-in-Renamed.pick c.in_ok-pick-in-Renamed.ensures.pick c.in_err-one-in-Renamed.field-0.0 c.in_err-one-in-Renamed.ensures.chosen))

pub returns-in_err-head-in-Renamed-clause-asked : goal.returns-in_err-head-in-Renamed-clause-asked
returns-in_err-head-in-Renamed-clause-asked c =
    let p = err_from_is_err_and c.from_residual-in_err-head-in-Renamed.result c.from_residual-in_err-head-in-Renamed.ensures.1 in
    rw (p.1, p.2) (subst (λ (p : IncludePart). Gives {X = Asked} (asked_by c.args.setting c.args.mark c.args.source.now.list (part_of p)) (Err c.in_err-head-in-Renamed.field-0.0)) (sym c.in-Renamed.is)
    (head_stop c.args.setting c.args.mark c.args.source.now.list c.in-Renamed.kind c.in-Renamed.new_kind (pick_of c.in-Renamed.pick) (option_map head_of c.in-Renamed.head)
    c.in_ok-pick-in-Renamed.pick c.in_ok-pick-in-Renamed.ensures.pick (lent_one c.in_ok-one-in-Renamed.one) c.in_ok-one-in-Renamed.ensures.chosen
    c.in_err-head-in-Renamed.field-0.0 c.in_err-head-in-Renamed.ensures.head))

pub returns-in_ok-asked_for-in-Renamed-clause-asked : goal.returns-in_ok-asked_for-in-Renamed-clause-asked
returns-in_ok-asked_for-in-Renamed-clause-asked c =
    subst (λ (p : IncludePart). asked_by c.args.setting c.args.mark c.args.source.now.list (part_of p) ≡ Ok c.in_ok-asked_for-in-Renamed.field-0) (sym c.in-Renamed.is)
    (asked_so c.args.setting c.args.mark c.args.source.now.list c.in-Renamed.kind c.in-Renamed.new_kind (pick_of c.in-Renamed.pick) (option_map head_of c.in-Renamed.head)
    c.in_ok-pick-in-Renamed.pick c.in_ok-pick-in-Renamed.ensures.pick (lent_one c.in_ok-one-in-Renamed.one) c.in_ok-one-in-Renamed.ensures.chosen
    c.in_ok-head-in-Renamed.head c.in_ok-asked_for-in-Renamed.field-0 c.in_ok-head-in-Renamed.ensures.head c.in_ok-asked_for-in-Renamed.ensures)
