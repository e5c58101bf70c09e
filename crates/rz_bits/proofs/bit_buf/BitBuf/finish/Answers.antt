use Rattle.std.proofs.Common.{ap, sym, ◌∙◌}
use Rattle.rz_bits.specs.Bits.{bits_of, bytes_of}
use Rattle.rz_bits.specs.BitBuf.{filled}
use Rattle.rz_bits.proofs.bit_buf.BitBuf.finish.Goals as goal

pub returns-clause-bytes : goal.returns-clause-bytes
returns-clause-bytes c =
    c.from_vec.ensures
    ∙ sym (ap (λ bytes. bytes_of (bits_of bytes)) (sym c.deref.ensures.value) ∙ c.are_read_back.ensures ∙ c.deref.ensures.value)
    ∙ ap bytes_of (c.self.invariant.filled ∙ ap (filled 8) c.self.view_is)
