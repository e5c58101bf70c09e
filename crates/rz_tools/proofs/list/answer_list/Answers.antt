use Rattle.std.proofs.Common.{ℕ, List, length, subst, sym}
use Rattle.rz_core.specs.declared.fault.Fault.{Fault}
use Rattle.rz_folder.proofs.Present.{halt_placed}
use Rattle.rz_tools_answer.specs.Warning.{AreWarnings}
use Rattle.rz_tools_output.specs.Det.{det}
use Rattle.rz_tools.proofs.Commands.{plan_replies}
use Rattle.rz_tools.proofs.ListReply.{list_replies, list_stopped}
use Rattle.rz_tools.proofs.list.answer_list.Goals as goal

pub say_stop-requires-clause-fault : goal.say_stop-requires-clause-fault
say_stop-requires-clause-fault g c = halt_placed (List ℕ) (List ℕ) (length c.new-files.result) c.in-Err.halt c.in-Err.ensures.text.bad

pub say_stop-requires-clause-warnings : goal.say_stop-requires-clause-warnings
say_stop-requires-clause-warnings g c = subst (λ (ws : List Fault). AreWarnings (length c.new-files.result) ws) (sym c.new-warnings.ensures) tt

pub returns-in-Ok : goal.returns-in-Ok
returns-in-Ok g c = list_replies g.F.Folder (det c.args.words) c.in-Ok.text c.in-Ok.ensures.text c.in-Ok.ensures.whole

pub returns-in-Err : goal.returns-in-Err
returns-in-Err g c =
    plan_replies g.F.Folder c.stopped.result c.planned.result c.planned.ensures
    (list_stopped g.F.Folder (det c.args.words) c.new-files.result c.new-warnings.result c.new-files.ensures c.new-warnings.ensures c.in-Err.halt c.say_stop.result c.say_stop.ensures
    c.stopped.result c.stopped.ensures.refused c.stopped.ensures.well_formed c.stopped.ensures.writable c.stopped.ensures.no_usage c.stopped.ensures.read_fault c.in-Err.ensures.text)
