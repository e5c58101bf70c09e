use Rattle.std.proofs.Common.{ap, ◌∙◌}
use Rattle.rz_core.specs.Stop.{fault_seen}
use Rattle.rz_core.specs.declared.fault.Kept.{Kept}
use Rattle.rz_set.specs.Change.{after_change}
use Rattle.rz_tools_values.specs.Chosen.{sought_by}
use Rattle.rz_tools_work.specs.Put.{set_fault}
use Rattle.rz_tools_work.proofs.Puts.{leaves_so}
use Rattle.std.proofs.lemmas.Result.{err_from_is_err_and}
use Rattle.rz_stmt_lists.specs.Change.{change_of}
use Rattle.rz_tools_work.specs.Change.{change_said, list_changed}
use Rattle.rz_tools_work.proofs.Calls.{stepped_on, stepped_stop}
use Rattle.rz_tools_work.proofs.change.change_resources.Goals as goal

pub returns-clause-changed : goal.returns-clause-changed
returns-clause-changed c =
    stepped_on (change_said c.args.setting c.args.mark c.args.resources.now (change_of c.args.stmt.now)) (list_changed c.args.setting c.args.mark c.args.resources.now c.args.stmt.now.kind)
    c.in_ok-said.said c.on_line.result c.change-left.new.self c.in_ok-said.ensures.said
    (leaves_so c.args.mark (sought_by c.args.stmt.now.kind c.in_ok-said.said.pick) c.args.resources.now c.change-left.new.self
    (after_change c.args.stmt.now.kind c.in_ok-said.said.pick c.in_ok-said.said.head c.args.setting.over c.args.resources.now) c.change-left.result c.on_line.result
    (c.on_line.ensures.left ∙ ap (λ (k : Kept). fault_seen (set_fault c.args.mark k) c.change-left.result) c.in_ok-sought.ensures) c.change-left.ensures)

pub returns-in_err-said-clause-changed : goal.returns-in_err-said-clause-changed
returns-in_err-said-clause-changed c =
    let p = err_from_is_err_and c.from_residual.result c.from_residual.ensures.1 in
    rw (p.1, p.2) (stepped_stop (change_said c.args.setting c.args.mark c.args.resources.now (change_of c.args.stmt.now)) (list_changed c.args.setting c.args.mark c.args.resources.now c.args.stmt.now.kind)
    c.in_err-said.field-0.0 c.args.resources.now c.in_err-said.ensures.said)
