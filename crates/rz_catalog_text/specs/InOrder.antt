-- Answers for the items of a list.
use Rattle.std.specs.Prelude.{◌≡◌, List, [], ◌∷◌, Ok}
use Rattle.std.specs.declared.result.Result.{Result}
use Rattle.rz_core.specs.Answers.{Then}

-- what is answered for each item, in order, or the first fault
abbrev pub EachInOrder : {A B F : Type 0} → (A → Result B F → Type 0) → List A → Result (List B) F → Type 0
EachInOrder answers [] answer = answer ≡ Ok []
EachInOrder answers (x ∷ xs) answer = Then (answers x) (λ y. Then (EachInOrder answers xs) (λ ys whole. whole ≡ Ok (y ∷ ys))) answer
