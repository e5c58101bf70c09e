use Rattle.std.proofs.Common.{◌≡◌, ◌++◌, length}
use Rattle.std.specs.Prelude.{option_map}
use Rattle.rz_catalog_text.specs.Read.{shapes_of, texts_in}
use Rattle.rz_catalog_text.proofs.read.texts_in.Given as goal

abbrev pub invariant-texts : goal.invariant-texts
invariant-texts l = texts_in (shapes_of l.tokens) ≡ option_map (λ more. l.text ++ more) (texts_in (shapes_of l.rest))

abbrev pub decreases-texts : goal.decreases-texts
decreases-texts l = length l.rest
