use Rattle.std.proofs.Common.{replicate, ap, sym, ◌∙◌}
use Rattle.rz_bits.proofs.Many.{ones}
use Rattle.rz_bits.proofs.Numbers.{number_bits-zero}
use Rattle.rz_bits.proofs.bit_buf.repeated.Goals as goal

pub returns-then-bit : goal.returns-then-bit
returns-then-bit c = λ width most. ones width most ∙ ap (replicate width) (sym c.if-bit.true)

pub returns-else-bit : goal.returns-else-bit
returns-else-bit c = λ width most. number_bits-zero width ∙ ap (replicate width) (sym c.if-bit.false)
