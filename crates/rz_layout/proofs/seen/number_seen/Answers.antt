use Rattle.std.proofs.Common.{◌+ℤ◌, ◌≤ℤ◌, arith, ℤ, pos, take, drop, of_z, to_z, w64, sym, ap, subst, ◌∙◌}
use Rattle.std.specs.Prelude.{nat_abs}
use Rattle.std.proofs.lemmas.Int.{ints, to_z-of_z}
use Rattle.rz_bits.specs.View.{number_at}
use Rattle.rz_bits.proofs.Any.{any_set}
use Rattle.rz_types_fields.proofs.Marks.{not_less, seen_number}
use Rattle.rz_layout.proofs.seen.number_seen.Goals as goal

pub returns : goal.returns
returns c =
    let same = to_z-of_z w64 c.args.first c.ranges.first in
    let low : pos 0 ≤ℤ c.args.first = subst (λ (z : ℤ). pos 0 ≤ℤ z) same (not_less (to_z w64 (of_z w64 c.args.first)) (pos 0) c.if-first-lt0.false) in
    let one = not_less (to_z w64 (of_z w64 c.from.result)) (to_z w64 (of_z w64 c.args.first)) c.if-first-from.false in
    let other = not_less (to_z w64 (of_z w64 c.from-3.result)) (to_z w64 (of_z w64 (to_z w64 (of_z w64 c.args.first) +ℤ to_z w64 (of_z w64 c.from-2.result)))) c.if-first-from-2.false in
    seen_number c.args.bits.now c.args.marks.now c.args.at c.args.first c.args.width c.at.result
    (c.at.ensures.number ∙ ap (λ (z : ℤ). number_at c.args.bits.now (nat_abs z) c.args.width) same)
    (sym c.if-is_hit.false ∙ c.is_hit.ensures ∙ ap (λ (z : ℤ). any_set (take c.args.width (drop (nat_abs z) c.args.marks.now))) same)
    low (omega (arith, ints, one, other, low, c.from.ensures, c.from-2.ensures, c.from-3.ensures))
