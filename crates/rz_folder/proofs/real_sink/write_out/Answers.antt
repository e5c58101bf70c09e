use Rattle.std.proofs.Common.{arith}
use Rattle.rz_folder.proofs.Writers.{written_more}
use Rattle.rz_folder.proofs.real_sink.write_out.Goals as goal

pub loop-count-preserved : goal.loop-count-preserved
loop-count-preserved g c = record {
  within = omega arith;
  written = written_more _ _ _ c.args.bytes.now c.loop-count.count c.write_once-more.result c.loop-count.invariant.written (omega arith) c.write_once-more.ensures.written;
}
