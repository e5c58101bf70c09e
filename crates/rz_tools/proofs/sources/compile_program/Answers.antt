use Rattle.std.proofs.Common.{ℕ, List, length}
use Rattle.rz_core.specs.Message.{IsNameable}
use Rattle.rz_folder.proofs.Finding.{failed_so, refuses_so}
use Rattle.rz_folder.proofs.Reading.{reads_as}
use Rattle.rz_tools_answer.specs.Answer.{Making}
use Rattle.rz_tools_answer.specs.Made.{IsSayable}
use Rattle.rz_tools_answer.specs.declared.made.Made.{Made}
use Rattle.rz_tools_work.specs.Held.{work_of}
use Rattle.rz_tools.specs.Sources.{Compiled}
use Rattle.rz_tools.proofs.Sourced.{stop_told, work_told}
use Rattle.rz_tools.proofs.sources.compile_program.Goals as goal

pub returns-in-Ok : goal.returns-in-Ok
returns-in-Ok g c =
    let cut = c.all_tokens_are_statements.ensures c.args.program.tokens in
    record {
      answered = work_told c.args.setting c.args.paths.now (work_of c.args.start) cut.0 c.args.program cut.1
          (g.F.Folder.files c.args.folder.now) (work_of c.compile_statements.new.work) c.in-Ok.ensures.work;
      good = c.compile_statements.ensures.warned (length c.args.program.files) c.requires.within c.requires.warnings;
      bad = tt;
      reads = c.in-Ok.ensures.reads;
    }

pub say_stop-stop-requires-clause-fault : goal.say_stop-stop-requires-clause-fault
say_stop-stop-requires-clause-fault g c =
    refuses_so (Unit {0}) (List ℕ) c.in-Err.halt (IsNameable (length c.args.program.files)) (c.in-Err.ensures.nameable (length c.args.program.files) c.requires.within)

pub say_stop-stop-requires-clause-warnings : goal.say_stop-stop-requires-clause-warnings
say_stop-stop-requires-clause-warnings g c = c.compile_statements.ensures.warned (length c.args.program.files) c.requires.within c.requires.warnings

pub returns-in-Err : goal.returns-in-Err
returns-in-Err g c =
    let cut = c.all_tokens_are_statements.ensures c.args.program.tokens in
    let beside = c.say_stop-stop.ensures in
    let stop = c.say_stop-stop.result in
    record {
      answered = stop_told c.args.setting c.args.paths.now (work_of c.args.start) cut.0 c.args.program cut.1
          (g.F.Folder.files c.args.folder.now) (work_of c.compile_statements.new.work) c.in-Err.halt stop c.in-Err.ensures.work beside;
      good = tt;
      bad = refuses_so Making Compiled stop IsSayable beside.sayable;
      reads = reads_as g.F.Folder c.args.folder.now c.compile_statements.new.folder
          (λ failed. failed_so (List ℕ) (Unit {0}) c.in-Err.halt (beside.read_fault (failed_so Compiled Made stop failed))) c.in-Err.ensures.reads;
    }
