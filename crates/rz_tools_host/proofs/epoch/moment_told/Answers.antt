use Rattle.std.proofs.Common.{arith, sym, subst, ap, ◌≡◌, ◌∙◌, pos, to_z, of_z, w64, FitsSigned}
use Rattle.std.proofs.lemmas.Int.{ints, to_z-of_z}
use Rattle.rz_core.specs.Moment.{IsInRange}
use Rattle.rz_tools_host.proofs.NoMoment.{nothing_told}
use Rattle.rz_tools_host.proofs.epoch.moment_told.Goals as goal

-- src/epoch.rt:11:1
pub returns-clause-none : goal.returns-clause-none
returns-clause-none c =
    let number = c.in_ok-number_told.field-0 in
    let fits : FitsSigned w64 (pos number) = record { sfits = omega (arith, ints, c.from.type_inv, c.from.ensures) } in
    let same : to_z w64 (of_z w64 c.from.result) ≡ pos number = ap (λ z. to_z w64 (of_z w64 z)) c.from.ensures ∙ to_z-of_z w64 (pos number) fits in
    nothing_told c.of_unix.result c.args.text.now number (omega (arith, ints, c.from.type_inv, c.from.ensures)) (c.in_ok-number_told.ensures.some)
    (λ range. c.of_unix.ensures.some.1 (subst IsInRange (sym same) range))
