use Rattle.std.proofs.Common.{◌*◌, ◌/◌, ◌%◌, ◌<◌, ◌∙◌, ap, sym, get_or, arith, ℕ}
use Rattle.std.proofs.lemmas.Nat.{xor_of_8}
use Rattle.std.specs.Int.Bits.{bit_xor}
use Rattle.rz_bridge.specs.declared.check.TheConstants.{TABLE}
use Rattle.rz_bridge.proofs.Remainder.{byte_is}
use Rattle.rz_bridge.proofs.check.byte_more.Goals as goal

pub returns : goal.returns
returns c =
    let small : bit_xor (c.args.check / 256) c.args.byte < 256 = omega (arith, xor_of_8 (c.args.check / 256) c.args.byte (omega arith) (omega arith)) in
    ap (bit_xor (c.args.check * 256 % 65536)) (c.entry.ensures ∙ ap (λ (n : ℕ). get_or TABLE (bit_xor (c.args.check / 256) n) 0) c.from.ensures)
    ∙ sym (byte_is c.args.check c.args.byte small)
