use Rattle.std.proofs.Common.{Err, refl}
use Rattle.rz_folder.proofs.Finding.{refuses_so}
use Rattle.rz_tools_answer.proofs.Planning.{concludes_stopped}
use Rattle.rz_tools_answer.specs.Answer.{shown}
use Rattle.rz_tools_answer.specs.Made.{IsSayable}
use Rattle.rz_tools_answer.specs.declared.made.Made.{Made}
use Rattle.rz_tools.proofs.Commands.{fork_replies, fork_stopped, plan_replies}
use Rattle.rz_tools.specs.DeRez.{Shows}
use Rattle.rz_tools.specs.Held.{derez}
use Rattle.rz_tools.specs.declared.reply.ForkShown.{ForkShown}
use Rattle.rz_tools.proofs.derez.answer_derez.Goals as goal

pub returns-in-Ok : goal.returns-in-Ok
returns-in-Ok g c =
    let asked = derez c.args.words in
    fork_replies (Shows c.args.moment asked) asked.from asked.file g.F.Folder c.in-Ok.shown c.in-Ok.ensures

pub returns-in-Err : goal.returns-in-Err
returns-in-Err g c =
    let asked = derez c.args.words in
    let plan = c.stopped.result in
    plan_replies g.F.Folder plan c.planned.result c.planned.ensures
    (fork_stopped (Shows c.args.moment asked) asked.from asked.file g.F.Folder c.in-Err.halt plan c.in-Err.ensures
    (concludes_stopped shown (Err c.in-Err.halt) c.in-Err.halt refl plan c.stopped.ensures.refused c.stopped.ensures.well_formed c.stopped.ensures.writable c.stopped.ensures.no_usage
    c.stopped.ensures.read_fault))

pub stopped-requires : goal.stopped-requires
stopped-requires g c = refuses_so ForkShown Made c.in-Err.halt IsSayable c.in-Err.ensures.bad
