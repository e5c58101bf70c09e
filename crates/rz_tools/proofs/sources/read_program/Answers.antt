use Rattle.std.proofs.Common.{Err, sym, subst}
use Rattle.rz_core.specs.declared.stop.Halt.{Halt}
use Rattle.rz_folder.specs.Finds.{Finds}
use Rattle.rz_pre.specs.Program.{ProgramGoes}
use Rattle.rz_pre.specs.Reading.{OfProgram}
use Rattle.rz_tools_answer.specs.Made.{IsSayable}
use Rattle.rz_tools_answer.specs.declared.made.Failing.{Failing}
use Rattle.rz_tools.specs.Held.{CanCompile}
use Rattle.rz_tools.specs.Sources.{Unsaid}
use Rattle.rz_tools.proofs.Sourced.{no_program, not_read_failed, not_read_sayable}
use Rattle.rz_tools.proofs.sources.read_program.Goals as goal

pub returns-in-Ok : goal.returns-in-Ok
returns-in-Ok g c = record {
  answered = c.in-Ok.ensures.program;
  good = record { within = c.in-Ok.ensures.within; lexed = c.in-Ok.ensures.lexed c.requires.lexed };
  bad = tt;
  reads = record {
    unchanged = c.in-Ok.ensures.unchanged;
    counted = c.in-Ok.ensures.counted;
    other_count = c.in-Ok.ensures.other_count;
    unwritten = c.in-Ok.ensures.unwritten;
    cause = λ never. absurd never;
    allowed = c.in-Ok.ensures.allowed;
  };
}

pub returns-in-Err : goal.returns-in-Err
returns-in-Err g c =
    subst (λ (halt : Halt Failing). Finds g.F.Folder c.args.folder.now c.preprocess.new.folder (Err halt)
    (λ files. OfProgram (Unsaid (ProgramGoes files c.args.tool c.args.words.now.files c.args.words.now.paths c.args.words.now.defs))) CanCompile IsSayable) (sym c.not_read.ensures)
    (record {
      answered = no_program c.args.tool c.args.words.now.files c.args.words.now.paths c.args.words.now.defs c.in-Err.halt (g.F.Folder.files c.args.folder.now) c.in-Err.ensures.program;
      good = tt;
      bad = not_read_sayable c.in-Err.halt c.in-Err.ensures.nameable;
      reads = record {
        unchanged = c.in-Err.ensures.unchanged;
        counted = c.in-Err.ensures.counted;
        other_count = c.in-Err.ensures.other_count;
        unwritten = c.in-Err.ensures.unwritten;
        cause = λ failed. c.in-Err.ensures.cause (not_read_failed c.in-Err.halt failed);
        allowed = c.in-Err.ensures.allowed;
      };
    })
