-- Answers for the items of a list: one at most where each item has one at most, and one where each has one.
use Rattle.std.proofs.Common.{◌≡◌, List, [], ◌∷◌}
use Rattle.std.specs.Prelude.{Ok}
use Rattle.std.specs.List.{AllByRecursion}
use Rattle.std.specs.declared.result.Result.{Result}
use Rattle.rz_core.specs.Answers.{Then}
use Rattle.rz_core.proofs.Has.{has_is, has_then, Has}
use Rattle.rz_core.proofs.Once.{once_is, once_then, Once}
use Rattle.rz_catalog_text.specs.InOrder.{EachInOrder}

module _ {A B F : Type 0} (answers : A → Result B F → Type 0) where
  pub once_each : ((x : A) → Once (answers x)) → (xs : List A) → Once (EachInOrder answers xs)
  once_each one [] = once_is (Ok [])
  once_each one (x ∷ xs) =
      once_then (answers x) (λ y. Then (EachInOrder answers xs) (λ ys whole. whole ≡ Ok (y ∷ ys))) (one x)
      (λ y. once_then (EachInOrder answers xs) (λ ys whole. whole ≡ Ok (y ∷ ys)) (once_each one xs) (λ ys. once_is (Ok (y ∷ ys))))

  -- each of the items has an answer
  pub has_each : (xs : List A) → AllByRecursion (λ x. Has (answers x)) xs → Has (EachInOrder answers xs)
  has_each [] some = has_is (Ok [])
  has_each (x ∷ xs) some =
      has_then (answers x) (λ y. Then (EachInOrder answers xs) (λ ys whole. whole ≡ Ok (y ∷ ys))) some.0
      (λ y is. has_then (EachInOrder answers xs) (λ ys whole. whole ≡ Ok (y ∷ ys)) (has_each xs some.1) (λ ys are. has_is (Ok (y ∷ ys))))
