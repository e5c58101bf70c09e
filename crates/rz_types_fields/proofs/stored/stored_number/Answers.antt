use Rattle.std.proofs.Common.{ℕ, ◌%◌, ◌^◌, ◌<◌, ◌≤◌, nat_abs, sym, ap, ◌∙◌, arith, of_z, w32}
use Rattle.std.proofs.Math.Nat.{mod-eq_of_lt}
use Rattle.std.proofs.Math.Pow.{pow_mono}
use Rattle.std.proofs.lemmas.Int.{to_z-of_z}
use Rattle.rz_types_fields.proofs.stored.stored_number.Goals as goal

below : (width bits : ℕ) → 32 ≤ width → bits < 2 ^ 32 → bits < 2 ^ width
below width bits wide fits = let more : 2 ^ 32 ≤ 2 ^ width = pow_mono wide in omega arith

wide : (c : goal.Else-width-lt32) → 32 ≤ nat_abs c.args.width
wide c = omega (arith, c.unsigned_abs-width.ensures.value ∙ ap nat_abs (to_z-of_z w32 c.args.width c.ranges.width))

pub returns-else-width-lt32-clause-small : goal.returns-else-width-lt32-clause-small
returns-else-width-lt32-clause-small c = below (nat_abs c.args.width) c.cast_unsigned-bits.result (wide c) c.cast_unsigned-bits.type_inv

pub returns-else-width-lt32-clause-stored : goal.returns-else-width-lt32-clause-stored
returns-else-width-lt32-clause-stored c =
    let small : c.cast_unsigned-bits.result < 2 ^ nat_abs c.args.width = below (nat_abs c.args.width) c.cast_unsigned-bits.result (wide c) c.cast_unsigned-bits.type_inv in
    sym (mod-eq_of_lt small)
    ∙ ap (λ (n : ℕ). n % 2 ^ nat_abs c.args.width) (c.cast_unsigned-bits.ensures ∙ ap (of_z w32) (to_z-of_z w32 c.args.value c.ranges.value))
