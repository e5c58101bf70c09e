-- A word that may be a number in decimal.
use Rattle.std.specs.Prelude.{ℕ, ◌≤◌, List, [], ◌∷◌}

-- the word is one digit, or begins with another digit than zero
abbrev pub BeginsAsDecimal : List ℕ → Type 0
BeginsAsDecimal [] = ⊥
BeginsAsDecimal (c ∷ []) = (48 ≤ c) × (c ≤ 57)
BeginsAsDecimal (c ∷ d ∷ cs) = (49 ≤ c) × (c ≤ 57)
