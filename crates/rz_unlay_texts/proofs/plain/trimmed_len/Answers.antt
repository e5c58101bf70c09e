use Rattle.std.proofs.Common.{sym, ◌∙◌, arith}
use Rattle.rz_unlay_texts.proofs.TextSteps.{trim_more, trim_other}
use Rattle.rz_unlay_texts.proofs.plain.trimmed_len.Goals as goal

pub loop-len-preserved : goal.loop-len-preserved
loop-len-preserved c = record {
  same = trim_more c.args.bytes.now c.loop-len.len (omega arith) (omega arith) c.if-bytes-len-eq0.true ∙ c.loop-len.invariant.same;
  within = omega arith;
}

pub returns-else-bytes-len-eq0 : goal.returns-else-bytes-len-eq0
returns-else-bytes-len-eq0 c = sym (trim_other c.args.bytes.now c.loop-len.len (omega arith) (omega arith) c.if-bytes-len-eq0.false) ∙ c.loop-len.invariant.same
