use Rattle.std.proofs.Common.{◌≡◌, ◌+◌, ◌*◌, ◌/◌, ◌≤◌, length, drop, ap, ◌∙◌, arith}
use Rattle.rz_bits.specs.Bits.{bits_of, front_bytes}
use Rattle.rz_bits.proofs.Windows.{bits_length, bytes_found}
use Rattle.rz_bits.proofs.bit_view.BitView.lent.Goals as goal

pub returns-clause-bytes : goal.returns-clause-bytes
returns-clause-bytes c =
    let all = bits_of c.args.self.now.bytes.now in
    let there : c.args.place + 8 * c.args.count ≤ length all = omega (arith, bits_length c.args.self.now.bytes.now) in
    let whole : 8 * (c.args.place / 8) ≡ c.args.place = let zero = c.if-place-ne0.false in omega (arith, zero) in
    bytes_found all c.args.place c.args.count c.bytes_in.result.now there (c.bytes_in.ensures ∙ ap (λ n. front_bytes c.args.count (drop n all)) whole)
