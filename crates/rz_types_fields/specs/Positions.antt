-- Where those of a list that pass a test stand in it.
use Rattle.std.specs.Prelude.{ℕ, suc, Bool, if◌then◌else◌, List, [], ◌∷◌, map}

-- the positions of those that pass, from 0, ascending
abbrev pub positions : {A : Type 0} → (A → Bool) → List A → List ℕ
positions test [] = []
positions test (x ∷ xs) = if test x then 0 ∷ map suc (positions test xs) else map suc (positions test xs)
