-- Answers for the items of a list that are all values.
use Rattle.std.proofs.Common.{inl, inr, List, [], ◌∷◌, refl, sym, subst}
use Rattle.std.specs.Prelude.{Ok}
use Rattle.std.specs.declared.result.Result.{Result}
use Rattle.rz_core.proofs.Once.{ok_or_err, same_ok}
use Rattle.rz_catalog_text.specs.InOrder.{EachInOrder}

-- item by item
abbrev pub AreBy : {A B : Type 0} → (A → B → Type 0) → List A → List B → Type 0
AreBy P [] [] = Unit {0}
AreBy P [] (y ∷ ys) = ⊥
AreBy P (x ∷ xs) [] = ⊥
AreBy P (x ∷ xs) (y ∷ ys) = P x y × AreBy P xs ys

module _ {A B F : Type 0} (answers : A → Result B F → Type 0) where
  abbrev pub Gives : A → B → Type 0
  Gives x y = answers x (Ok y)

  pub each_by : (xs : List A) (ys : List B) → AreBy Gives xs ys → EachInOrder answers xs (Ok ys)
  each_by [] [] are = refl
  each_by [] (y ∷ ys) are = absurd are
  each_by (x ∷ xs) [] are = absurd are
  each_by (x ∷ xs) (y ∷ ys) are = inl (y, are.0, inl (ys, each_by xs ys are.1, refl))

  pub by_each : (xs : List A) (ys : List B) → EachInOrder answers xs (Ok ys) → AreBy Gives xs ys
  by_each [] ys is = subst (AreBy Gives []) (sym (same_ok {F = F} ys [] is)) tt
  by_each (x ∷ xs) ys (inl (y, one, inl (zs, all, is))) = subst (AreBy Gives (x ∷ xs)) (sym (same_ok {F = F} ys (y ∷ zs) is)) (one, by_each xs zs all)
  by_each (x ∷ xs) ys (inl (y, one, inr (fault, bad, is))) = absurd (ok_or_err ys fault is)
  by_each (x ∷ xs) ys (inr (fault, bad, is)) = absurd (ok_or_err ys fault is)
