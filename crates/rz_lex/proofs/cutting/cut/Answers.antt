use Rattle.std.proofs.Common.{◌+◌}
use Rattle.rz_core.specs.Message.{IsNameable}
use Rattle.rz_core.proofs.Stops.{fault_so, gives_value, gives_fault}
use Rattle.rz_lex.specs.Cutting.{Cuts, Refuses}
use Rattle.rz_lex.proofs.OneWay.{one_list, one_fault, not_both}
use Rattle.rz_lex.proofs.Nameable.{refused_said}
use Rattle.rz_lex.proofs.cutting.cut.Goals as goal

pub returns-clause-every_list : goal.returns-clause-every_list
returns-clause-every_list c = gives_value (Cuts c.args.line.now.mark c.args.line.now.bytes) (Refuses c.args.line.now.mark c.args.line.now.bytes)
    (not_both c.args.line.now.mark c.args.line.now.bytes) (one_list c.args.line.now.mark c.args.line.now.bytes) c.cut_line.result c.cut_line.ensures.tokens c.cut_line.ensures.fault

pub returns-clause-every_fault : goal.returns-clause-every_fault
returns-clause-every_fault c = gives_fault (Cuts c.args.line.now.mark c.args.line.now.bytes) (Refuses c.args.line.now.mark c.args.line.now.bytes)
    (not_both c.args.line.now.mark c.args.line.now.bytes) (one_fault c.args.line.now.mark c.args.line.now.bytes) c.cut_line.result c.cut_line.ensures.tokens c.cut_line.ensures.fault

pub returns-clause-nameable : goal.returns-clause-nameable
returns-clause-nameable c = fault_so (Refuses c.args.line.now.mark c.args.line.now.bytes) (IsNameable (c.args.line.now.mark.file + 1))
    (refused_said c.args.line.now.mark c.args.line.now.bytes) c.cut_line.result c.cut_line.ensures.fault
