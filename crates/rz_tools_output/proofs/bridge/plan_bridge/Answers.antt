use Rattle.std.proofs.Common.{ℕ, List, [], length, map, Err, refl, subst, sym}
use Rattle.rz_core.specs.declared.fault.Fault.{Fault}
use Rattle.rz_folder.proofs.Present.{halt_placed}
use Rattle.rz_tools_answer.proofs.Planning.{concludes_stopped, stop_sayable}
use Rattle.rz_tools_answer.specs.Answer.{shown, Write}
use Rattle.rz_tools_answer.specs.Made.{IsBeside}
use Rattle.rz_tools_answer.specs.Plan.{write_of}
use Rattle.rz_tools_answer.specs.Warning.{AreWarnings}
use Rattle.rz_tools_output.specs.Bridge.{bridge}
use Rattle.rz_tools_output.proofs.Bridging.{plans_refusal, plans_writes}
use Rattle.rz_tools_output.proofs.bridge.plan_bridge.Goals as goal

pub returns-in-Ok : goal.returns-in-Ok
returns-in-Ok g c = plans_writes g.F.Folder (bridge c.args.words) (map write_of c.in-Ok.writes) c.in-Ok.ensures c.writing.result c.writing.ensures

pub say_stop-stop-requires-clause-fault : goal.say_stop-stop-requires-clause-fault
say_stop-stop-requires-clause-fault g c = halt_placed (List Write) (List ℕ) (length c.new.result) c.in-Err.halt c.in-Err.ensures.bad

pub say_stop-stop-requires-clause-warnings : goal.say_stop-stop-requires-clause-warnings
say_stop-stop-requires-clause-warnings g c = subst (λ (ws : List Fault). AreWarnings (length c.new.result) ws) (sym c.new-warnings.ensures) tt

pub stopped-requires : goal.stopped-requires
stopped-requires g c = stop_sayable (Err c.say_stop-stop.result) c.say_stop-stop.result refl c.say_stop-stop.ensures.sayable

pub returns-in-Err : goal.returns-in-Err
returns-in-Err g c =
    plans_refusal g.F.Folder (bridge c.args.words) c.in-Err.ensures
    (subst (λ (names : List (List ℕ)). IsBeside names [] (Err c.in-Err.halt) (Err c.say_stop-stop.result)) c.new.ensures
    (subst (λ (ws : List Fault). IsBeside c.new.result ws (Err c.in-Err.halt) (Err c.say_stop-stop.result)) c.new-warnings.ensures c.say_stop-stop.ensures))
    c.stopped.result c.stopped.ensures.refused
    (concludes_stopped shown (Err c.say_stop-stop.result) c.say_stop-stop.result refl c.stopped.result c.stopped.ensures.refused c.stopped.ensures.well_formed c.stopped.ensures.writable
    c.stopped.ensures.no_usage c.stopped.ensures.read_fault)
