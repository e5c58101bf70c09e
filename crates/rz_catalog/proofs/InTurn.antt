-- Answers for the items of a list, one after the other.
use Rattle.std.proofs.Common.{◌≡◌, inl, inr, ℕ, ◌+◌, ◌≤◌, List, [], ◌∷◌, ◌++◌, length, drop, slice_get, Some, refl, sym, ap, subst, ◌∙◌}
use Rattle.std.specs.Prelude.{Ok, Err}
use Rattle.std.specs.declared.result.Result.{Result}
use Rattle.std.proofs.lemmas.List.{append-nil, append_assoc, at_drop_all}
use Rattle.rz_core.specs.Stop.{seen, Meets}
use Rattle.rz_core.specs.declared.stop.Stop.{Stop}
use Rattle.rz_core.specs.declared.stop.Stop.TheVariants.{Refused, NoMemory}
use Rattle.rz_catalog_text.specs.InOrder.{EachInOrder}
use Rattle.rz_catalog.proofs.Fronts.{drop_one}

module _ {A B F : Type 0} (answers : A → Result B F → Type 0) where
  one_behind : (x : A) (y : B) (xs : List A) → answers x (Ok y) → (rest : Result (List B) F) → EachInOrder answers xs rest → EachInOrder answers (x ∷ xs) (seen (λ ys. y ∷ ys) rest)
  one_behind x y xs is (Ok ys) are = inl (y, is, inl (ys, are, refl))
  one_behind x y xs is (Err fault) are = inl (y, is, inr (fault, are, refl))

  -- what is answered after these is the answer after all
  abbrev pub LeadTo : List A → List A → List B → Type 0
  LeadTo xs left so_far = (rest : Result (List B) F) → EachInOrder answers left rest → EachInOrder answers xs (seen (λ ys. so_far ++ ys) rest)

  pub none_yet : (xs : List A) → LeadTo xs xs []
  none_yet xs (Ok ys) are = are
  none_yet xs (Err fault) are = are

  module _ (xs : List A) (k : ℕ) (so_far : List B) (lead : LeadTo xs (drop k xs) so_far) where
    module _ (x : A) (at : slice_get xs k ≡ Some x) where
      pub one_more : (y : B) (more : List B) → answers x (Ok y) → more ≡ so_far ++ y ∷ [] → LeadTo xs (drop (k + 1) xs) more
      one_more y more is pushed rest are =
          subst (EachInOrder answers xs) (same rest)
          (lead (seen (λ ys. y ∷ ys) rest) (subst (λ left. EachInOrder answers left (seen (λ ys. y ∷ ys) rest)) (sym (drop_one xs k x at)) (one_behind x y (drop (k + 1) xs) is rest are)))
        where
          same : (r : Result (List B) F) → seen (λ ys. so_far ++ ys) (seen (λ ys. y ∷ ys) r) ≡ seen (λ ys. more ++ ys) r
          same (Ok ys) = ap (λ (l : List B). Ok l) (sym (append_assoc so_far (y ∷ []) ys) ∙ ap (λ (l : List B). l ++ ys) (sym pushed))
          same (Err fault) = refl

      pub one_stops : (stop : Stop F) → Meets {X = B} (Err stop) (answers x) → Meets {X = List B} (Err stop) (EachInOrder answers xs)
      one_stops (Refused fault) is = lead (Err fault) (subst (λ left. EachInOrder answers left (Err fault)) (sym (drop_one xs k x at)) (inr (fault, is, refl)))
      one_stops NoMemory is = tt

    pub all_answered : length xs ≤ k → EachInOrder answers xs (Ok so_far)
    all_answered past =
        subst (λ l. EachInOrder answers xs (Ok l)) (append-nil so_far) (lead (Ok []) (subst (λ left. EachInOrder answers left (Ok [])) (sym (at_drop_all (λ left. left) xs k past)) refl))
