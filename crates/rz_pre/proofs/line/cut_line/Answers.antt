use Rattle.rz_pre.proofs.Numbers.{cut_source}
use Rattle.rz_pre.proofs.line.cut_line.Goals as goal

pub returns-clause-nameable : goal.returns-clause-nameable
returns-clause-nameable c = cut_source c.args.line.now.mark _ c.cut.result c.cut.ensures.fault c.cut.ensures.nameable
