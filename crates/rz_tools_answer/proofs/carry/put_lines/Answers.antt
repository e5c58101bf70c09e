use Rattle.std.proofs.Common.{refl, arith}
use Rattle.rz_folder.proofs.Streams.{rose_with}
use Rattle.rz_folder.specs.declared.sink.Put.TheVariants.{Failed}
use Rattle.rz_tools_answer.proofs.Said.{failed_said, then_said}
use Rattle.rz_tools_answer.proofs.carry.put_lines.Goals as goal

pub returns-in-Done : goal.returns-in-Done
returns-in-Done g c =
    then_said c.args.lines.now c.args.line.now _ _ _ _ _ _ c.put_out.result c.in-Done.ensures.told (omega (arith, c.in-Done.ensures.counted)) c.put_out.ensures.told
    (rose_with _ _ c.put_out.result c.put_out.ensures.counted)

pub returns-in-Failed : goal.returns-in-Failed
returns-in-Failed g c =
    failed_said c.args.lines.now c.args.line.now _ _ _ _ c.in-Failed.ensures.told (rose_with _ _ Failed c.in-Failed.ensures.counted refl)
