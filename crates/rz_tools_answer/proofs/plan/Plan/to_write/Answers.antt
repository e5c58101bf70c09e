use Rattle.rz_tools_answer.specs.Answer.{written}
use Rattle.rz_tools_answer.specs.Made.{FitsFile}
use Rattle.rz_tools_answer.proofs.Planning.{concludes_made, concludes_nothing, concludes_stopped, made_good, stop_sayable}
use Rattle.rz_tools_answer.proofs.plan.Plan.to_write.Goals as goal

pub returns-in_ok-written-in-Ok : goal.returns-in_ok-written-in-Ok
returns-in_ok-written-in-Ok c =
    let good = made_good FitsFile c.args.made c.in-Ok.made c.in-Ok.is c.requires.good in
    concludes_made (written c.args.name.now) c.args.made c.in-Ok.made c.in-Ok.is c.in_ok-written-in-Ok.field-0 c.in_ok-written-in-Ok.ensures good.1 (good.0, tt) tt

pub returns-in_err-written-in-Ok : goal.returns-in_err-written-in-Ok
returns-in_err-written-in-Ok c = concludes_nothing (written c.args.name.now) c.args.made c.from_residual.result c.from_residual.ensures.1

pub returns-in-Err : goal.returns-in-Err
returns-in-Err c =
    concludes_stopped (written c.args.name.now) c.args.made c.in-Err.halt c.in-Err.is c.stopped.result c.stopped.ensures.refused c.stopped.ensures.well_formed
    c.stopped.ensures.writable c.stopped.ensures.no_usage c.stopped.ensures.read_fault

pub stopped-requires : goal.stopped-requires
stopped-requires c = stop_sayable c.args.made c.in-Err.halt c.in-Err.is c.requires.bad
