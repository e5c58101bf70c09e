use Rattle.std.proofs.Common.{ap, ◌∙◌}
use Rattle.rz_core.specs.Stop.{fault_seen}
use Rattle.rz_core.specs.declared.fault.Kept.{Kept}
use Rattle.rz_set.specs.After.{after_remove}
use Rattle.rz_tools_values.specs.Chosen.{sought_by}
use Rattle.rz_tools_work.specs.Put.{set_fault}
use Rattle.rz_tools_work.proofs.Puts.{leaves_so}
use Rattle.std.proofs.lemmas.Result.{err_from_is_err_and}
use Rattle.rz_stmt_lists.specs.Pick.{pick_of}
use Rattle.rz_tools_work.specs.Change.{list_without, pick_to_change}
use Rattle.rz_tools_work.proofs.Calls.{stepped_on, stepped_stop}
use Rattle.rz_tools_work.proofs.change.delete_resources.Goals as goal

pub returns-clause-deleted : goal.returns-clause-deleted
returns-clause-deleted c =
    stepped_on (pick_to_change c.args.setting c.args.mark c.args.stmt.now.kind.code (pick_of c.args.stmt.now.pick)) (list_without c.args.setting c.args.mark c.args.resources.now c.args.stmt.now.kind)
    c.in_ok-pick.pick c.on_line.result c.remove-left.new.self c.in_ok-pick.ensures.pick
    (leaves_so c.args.mark (sought_by c.args.stmt.now.kind c.in_ok-pick.pick) c.args.resources.now c.remove-left.new.self
    (after_remove c.args.stmt.now.kind c.in_ok-pick.pick c.args.setting.over c.args.resources.now) c.remove-left.result c.on_line.result
    (c.on_line.ensures.left ∙ ap (λ (k : Kept). fault_seen (set_fault c.args.mark k) c.remove-left.result) c.in_ok-sought.ensures) c.remove-left.ensures)

pub returns-in_err-pick-clause-deleted : goal.returns-in_err-pick-clause-deleted
returns-in_err-pick-clause-deleted c =
    let p = err_from_is_err_and c.from_residual.result c.from_residual.ensures.1 in
    rw (p.1, p.2) (stepped_stop (pick_to_change c.args.setting c.args.mark c.args.stmt.now.kind.code (pick_of c.args.stmt.now.pick)) (list_without c.args.setting c.args.mark c.args.resources.now c.args.stmt.now.kind)
    c.in_err-pick.field-0.0 c.args.resources.now c.in_err-pick.ensures.pick)
