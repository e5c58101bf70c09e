use Rattle.std.proofs.Common.{◌+ℤ◌, ◌≤ℤ◌, arith, ℤ, pos, of_z, to_z, w64, ap, subst, ◌∙◌}
use Rattle.std.specs.Prelude.{nat_abs}
use Rattle.std.proofs.lemmas.Int.{ints, to_z-of_z}
use Rattle.rz_bits.specs.View.{number_at, seen}
use Rattle.rz_types_fields.proofs.Marks.{not_less}
use Rattle.rz_unlay_pieces.proofs.Lateness.{before_number}
use Rattle.rz_unlay_pieces.proofs.seen.number_before.Goals as goal

pub returns : goal.returns
returns c =
    let same = to_z-of_z w64 c.args.first c.ranges.first in
    let low : pos 0 ≤ℤ c.args.first = subst (λ (z : ℤ). pos 0 ≤ℤ z) same (not_less (to_z w64 (of_z w64 c.args.first)) (pos 0) c.if-first-lt0.false) in
    let one = not_less (to_z w64 (of_z w64 c.from.result)) (to_z w64 (of_z w64 c.args.first)) c.if-first-from.false in
    let other = not_less (to_z w64 (of_z w64 c.from-3.result)) (to_z w64 (of_z w64 (to_z w64 (of_z w64 c.args.first) +ℤ to_z w64 (of_z w64 c.from-2.result)))) c.if-first-from-2.false in
    before_number (seen c.args.view.now) c.args.at c.args.first c.args.width c.at.result
    (c.at.ensures.number ∙ ap (λ (z : ℤ). number_at (seen c.args.view.now) (nat_abs z) c.args.width) same)
    low (omega (arith, ints, one, other, low, c.from.ensures, c.from-2.ensures, c.from-3.ensures))
