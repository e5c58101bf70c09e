use Rattle.std.proofs.Common.{ℕ, Bool, List, length, take, drop, ap, ◌∙◌, arith}
use Rattle.rz_bits.specs.Bits.{number_of, bits_of}
use Rattle.rz_bits.proofs.Any.{any_there, cut_taken}
use Rattle.rz_bits.proofs.Held.{held_size}
use Rattle.rz_bits.proofs.bit_buf.BitBuf.any.Goals as goal

pub number_in-requires-clause-within : goal.number_in-requires-clause-within
number_in-requires-clause-within c =
    let n = held_size c.self.inside.bytes.items c.self.inside.count c.self.invariant in
    let same = ap length c.deref.ensures.value in
    omega (arith, n, same, c.if-place-self.false, c.min-there.ensures, c.from.ensures)

pub returns : goal.returns
returns c =
    let long = ap length c.self.view_is in
    let own : List Bool → ℕ = λ bits. number_of (take c.min-there.result (drop c.args.place bits)) in
    any_there c.args.self.now c.args.place c.min-there.result c.args.width c.number_in.result
    (omega (arith, long, c.self.invariant.there, c.min-there.ensures, c.from.ensures))
    (c.number_in.ensures.number
    ∙ ap (λ (bytes : List ℕ). own (bits_of bytes)) c.deref.ensures.value
    ∙ ap number_of (cut_taken (bits_of c.self.inside.bytes.items) c.self.inside.count c.args.place c.min-there.result (omega (arith, c.if-place-self.false, c.min-there.ensures)))
    ∙ ap own c.self.view_is)
