use Rattle.std.proofs.Common.{◌≡◌, ◌+ℤ◌, rules, arith, of_z, to_z, w32, w64, sym, ◌∙◌}
use Rattle.std.proofs.lemmas.Int.{ints, to_z-of_z}
use mir.Val.{SFits}
use Rattle.rz_expr.proofs.Bits.{number_found, number_missing, same_bits, same_value, same_fault}
use Rattle.rz_expr.proofs.value.number_at.Goals as goal

pub returns-in-Some : goal.returns-in-Some
returns-in-Some g c =
    let fits : SFits w32 c.signed.result = search rules in
    let first : to_z w64 (of_z w64 c.first_bit.result) ≡ c.args.place +ℤ c.args.start = omega (arith, ints, c.first_bit.ensures, c.ranges.place, c.ranges.start) in
    sym (number_found (g.E.Env.view c.args.env.now) _ c.args.width _ _ c.bits.result first (to_z-of_z w32 c.args.width c.ranges.width) c.bits.ensures c.if-width-lt1.false c.if-width-gt32.false
    c.in-Some.number c.in-Some.is ∙ same_value _ _ (sym c.signed.ensures ∙ sym (to_z-of_z w32 c.signed.result fits)))

pub returns-in-None : goal.returns-in-None
returns-in-None g c =
    let place = to_z-of_z w32 c.args.place c.ranges.place in
    let start = to_z-of_z w32 c.args.start c.ranges.start in
    let width = to_z-of_z w32 c.args.width c.ranges.width in
    let first : to_z w64 (of_z w64 c.first_bit.result) ≡ c.args.place +ℤ c.args.start = omega (arith, ints, c.first_bit.ensures, c.ranges.place, c.ranges.start) in
    sym (number_missing (g.E.Env.view c.args.env.now) _ c.args.width _ _ c.bits.result first width c.bits.ensures c.if-width-lt1.false c.if-width-gt32.false c.in-None.is
    ∙ sym (same_fault _ _ (same_bits _ _ _ c.args.place c.args.start c.args.width _ place start width c.later_data.ensures)))
