-- One step of a look-up by name: the first pair has the name, or it has another.
use Rattle.std.proofs.Common.{◌≡◌, ℕ, List, ◌∷◌, Some, sym, ap, ◌∙◌, true, false, cond}
use Rattle.std.specs.Str.{bytes_eq}
use Rattle.std.specs.Ordering.{nat_cmp}
use Rattle.std.specs.Cmp.Lexicographic.{slice_cmp}
use Rattle.std.specs.FinMap.{find}
use Rattle.std.proofs.lemmas.Map.Text.{is_eq-slice_cmp}

module _ (name : List ℕ) (pair : List ℕ × List ℕ) (others : List (List ℕ × List ℕ)) where
  pub find-same : true ≡ bytes_eq name pair.0 → find (slice_cmp nat_cmp) name (pair ∷ others) ≡ Some pair.1
  find-same same = ap (λ b. cond b (Some pair.1) (find (slice_cmp nat_cmp) name others)) (is_eq-slice_cmp name pair.0 ∙ sym same)

  pub find-other : false ≡ bytes_eq name pair.0 → find (slice_cmp nat_cmp) name (pair ∷ others) ≡ find (slice_cmp nat_cmp) name others
  find-other other = ap (λ b. cond b (Some pair.1) (find (slice_cmp nat_cmp) name others)) (is_eq-slice_cmp name pair.0 ∙ sym other)
