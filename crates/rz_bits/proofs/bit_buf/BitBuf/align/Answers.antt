use Rattle.std.proofs.Common.{◌++◌, false, ap, ◌∙◌, replicate}
use Rattle.rz_bits.specs.BitBuf.{missing}
use Rattle.rz_bits.proofs.Numbers.{number_bits-zero}
use Rattle.std.proofs.lemmas.Result.{on_ok_weaker}
use Rattle.rz_bits.proofs.bit_buf.BitBuf.align.Goals as goal

pub returns-clause-ok : goal.returns-clause-ok
returns-clause-ok c =
    on_ok_weaker c.push.result
    (λ is. is
    ∙ ap (λ bits. c.args.self.now ++ bits) (number_bits-zero c.missing-zeros.result)
    ∙ ap (λ n. c.args.self.now ++ replicate n false) (c.missing-zeros.ensures.is ∙ ap (missing c.args.unit) c.len.ensures.is))
    c.push.ensures.ok
