-- Answers: what a call may give, as a relation that holds of its value or of its fault.
use Rattle.std.specs.Prelude.{◌≡◌, ◌⊎◌, Ok, Err}
use Rattle.std.specs.declared.result.Result.{Result}

-- the second answer of the first one's value, or the first one's fault
abbrev pub Then : {X Y F : Type 0} → (Result X F → Type 0) → (X → Result Y F → Type 0) → Result Y F → Type 0
Then {X} {Y} {F} first next answer =
    ((value : X) × first (Ok value) × next value answer) ⊎ ((fault : F) × first (Err fault) × (answer ≡ Err fault))
