use Rattle.rz_tools_answer.specs.Answer.{shown}
use Rattle.rz_tools_answer.specs.Made.{IsWarned}
use Rattle.rz_tools_answer.proofs.Planning.{concludes_made, concludes_stopped, made_good, stop_sayable}
use Rattle.rz_tools_answer.proofs.plan.Plan.to_show.Goals as goal

pub returns-in-Ok : goal.returns-in-Ok
returns-in-Ok c =
    concludes_made shown c.args.made c.in-Ok.made c.in-Ok.is c.shown.result c.shown.ensures (made_good IsWarned c.args.made c.in-Ok.made c.in-Ok.is c.requires.good) tt tt

pub returns-in-Err : goal.returns-in-Err
returns-in-Err c =
    concludes_stopped shown c.args.made c.in-Err.halt c.in-Err.is c.stopped.result c.stopped.ensures.refused c.stopped.ensures.well_formed
    c.stopped.ensures.writable c.stopped.ensures.no_usage c.stopped.ensures.read_fault

pub stopped-requires : goal.stopped-requires
stopped-requires c = stop_sayable c.args.made c.in-Err.halt c.in-Err.is c.requires.bad
