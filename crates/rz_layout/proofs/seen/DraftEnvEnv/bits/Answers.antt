use Rattle.std.proofs.Common.{◌≡◌, ℤ, pos, None, Option, of_z, to_z, w32, w64, ap, ◌∙◌}
use Rattle.std.specs.Prelude.{if◌then◌else◌, nat_abs}
use Rattle.std.proofs.lemmas.Int.{to_z-of_z}
use Rattle.rz_types_fields.specs.Sees.{bits_before, hit}
use Rattle.rz_types_fields.proofs.Marks.{width_back}
use Rattle.rz_layout.proofs.seen.DraftEnvEnv.bits.Goals as goal

pub returns : goal.returns
returns c =
    let marks = c.args.self.now.marks.now in
    let bits = c.args.self.now.bits.now in
    let at = c.args.self.now.at in
    let seen : ℤ → ℤ → Option ℤ = λ first width. if hit marks first width then None else bits_before bits at first width in
    let wide : pos (nat_abs (to_z w32 (of_z w32 c.args.width))) ≡ c.args.width =
    ap (λ (z : ℤ). pos (nat_abs z)) (to_z-of_z w32 c.args.width c.ranges.width) ∙ width_back c.args.width c.requires.0 in
    c.number_seen.ensures ∙ (λ i. seen (to_z-of_z w64 c.args.first c.ranges.first i) (wide i))
