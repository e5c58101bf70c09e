-- A call has an answer.
use Rattle.std.specs.Prelude.{◌≡◌, refl, Ok, Err}
use Rattle.std.proofs.Common.{inl, inr}
use Rattle.std.specs.declared.result.Result.{Result}
use Rattle.rz_core.specs.Answers.{Then}

-- at least one answer
abbrev pub Has : {X F : Type 0} → (Result X F → Type 0) → Type 0
Has {X} {F} answers = (answer : Result X F) × answers answer

pub has_is : {X F : Type 0} (answer : Result X F) → Has (λ given. given ≡ answer)
has_is answer = (answer, refl)

-- the next call has an answer for each value that the first one may give
pub has_then : {X Y F : Type 0} (first : Result X F → Type 0) (next : X → Result Y F → Type 0) → Has first → ((x : X) → first (Ok x) → Has (next x)) → Has (Then first next)
has_then {X} {Y} {F} first next (Ok x, is) after =
    let found : Has (next x) = after x is in
    (found.0, inl (x, is, found.1))
has_then first next (Err f, is) after = (Err f, inr (f, is, refl))
