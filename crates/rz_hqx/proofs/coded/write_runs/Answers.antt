use Rattle.std.proofs.Common.{◌∙◌, arith}
use Rattle.rz_hqx.proofs.Writing.{all_written, none_written}
use Rattle.rz_hqx.proofs.coded.write_runs.Goals as goal

pub returns-in_default : goal.returns-in_default
returns-in_default c = c.new-out.ensures ∙ none_written c.args.bytes.now (omega (arith, c.in_default.len_below))

pub loop-next-init : goal.loop-next-init
loop-next-init c = record {
  so_far = all_written c.args.bytes.now c.new-out.result (omega (arith, c.in-len1-up.len_at_least)) c.new-out.ensures;
  some = omega arith;
}
