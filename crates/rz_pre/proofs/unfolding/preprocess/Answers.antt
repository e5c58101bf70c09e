use Rattle.rz_pre.specs.Program.{ProgramGoes}
use Rattle.rz_pre.specs.Reading.{state_of}
use Rattle.rz_pre.proofs.Going.{answer_from, answers_from, at_some, read_fault_from}
use Rattle.rz_folder.proofs.Found.{if_some}
use Rattle.rz_pre.proofs.unfolding.preprocess.Goals as goal

pub returns-clause-program : goal.returns-clause-program
returns-clause-program g c = if_some (g.F.Folder.files c.args.folder.now) _ (λ files told.
    answers_from c.read_all-ended.result (state_of c.read_all-ended.new.reading) c.finish.result _ (at_some _ files told _ c.read_all-ended.ensures.read) c.finish.ensures.finished)

pub returns-clause-every : goal.returns-clause-every
returns-clause-every g c = if_some (g.F.Folder.files c.args.folder.now) _ (λ files told.
    answer_from c.finish.result (ProgramGoes files c.args.tool c.args.names.now c.args.paths.now c.args.defs.now)
    (c.one_program.ensures files c.args.tool c.args.names.now c.args.paths.now c.args.defs.now)
    (answers_from c.read_all-ended.result (state_of c.read_all-ended.new.reading) c.finish.result _ (at_some _ files told _ c.read_all-ended.ensures.read) c.finish.ensures.finished))

pub returns-clause-cause : goal.returns-clause-cause
returns-clause-cause g c = read_fault_from c.read_all-ended.result (state_of c.read_all-ended.new.reading) c.finish.result _ c.read_all-ended.ensures.reads.cause c.finish.ensures.finished
