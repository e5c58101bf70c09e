use Rattle.std.proofs.Common.{ap, ◌∙◌}
use Rattle.rz_hqx.specs.Runs.{unpacked}
use Rattle.rz_hqx.proofs.Undone.{packed_again}
use Rattle.rz_hqx.proofs.coded.runs_write.Goals as goal

pub returns-clause-again : goal.returns-clause-again
returns-clause-again c = ap unpacked c.in_ok-write_runs.ensures ∙ packed_again c.args.bytes.now
