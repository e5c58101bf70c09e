use Rattle.std.proofs.Common.{ap, ◌+◌, ◌-◌, ◌*◌, ◌/◌, ◌%◌, ◌^◌, ◌∙◌, arith}
use Rattle.std.proofs.lemmas.Nat.{shr_le}
use Rattle.rz_bits.proofs.Held.{spelled_whole}
use Rattle.rz_bits.proofs.tail.spelled.Goals as goal

pub returns : goal.returns
returns c =
    let high = shr_le c.args.byte (8 - c.args.used) in
    spelled_whole (c.args.byte / 2 ^ (8 - c.args.used)) c.args.value c.args.width c.missing.result (omega (arith, high, c.ranges.byte)) c.requires.width (omega (arith, c.missing.ensures.below))
    ∙ ap (λ n. (c.args.byte / 2 ^ (8 - c.args.used) * 2 ^ c.args.width + c.args.value % 2 ^ c.args.width) * 2 ^ n) c.missing.ensures.is
