use Rattle.std.proofs.Common.{◌≡◌, ◌<◌, ◌==◌, ℕ, false, List, length, sym, subst, ◌∙◌, arith}
use Rattle.std.proofs.lemmas.Bool.Decides.{nat_tests}
use Rattle.rz_types_fields.specs.declared.field.Field.{Field}
use Rattle.rz_types.specs.Field.{plain_body}
use Rattle.rz_unlay.specs.Fits.{AreFit}
use Rattle.rz_unlay.proofs.KeyedCases.{fit_here}
use Rattle.rz_unlay.proofs.cases.hinted.Goals as goal

filled : (n : ℕ) → (n == 0) ≡ false → 0 < n
filled n is = grind (arith, nat_tests)

pub bits_there-requires-clause-fits : goal.bits_there-requires-clause-fits
bits_there-requires-clause-fits c =
    subst (λ (fields : List Field). AreFit (plain_body fields)) (sym c.as_slice.ensures)
    (fit_here c.args.cases.now 0 c.index-cases-0.result (filled (length c.args.cases.now) (sym c.is_empty.ensures ∙ c.if-is_empty.false)) c.index-cases-0.is c.requires.fits)
