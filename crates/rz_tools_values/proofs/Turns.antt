-- What calls read one after the other, as it is seen: the values so far stand before what the rest gives.
use Rattle.std.proofs.Common.{◌≡◌, List, [], ◌∷◌, ◌++◌, Ok, sym}
use Rattle.std.specs.declared.result.Result.{Result}
use Rattle.rz_core.specs.Stop.{◌>>=◌}
use Rattle.rz_core.specs.declared.fault.Fault.{Fault}
use Rattle.rz_core.proofs.SoFar.{one_more, so_far}

-- one more value
pub turn_more : {T X Y : Type 0} (view : T → X) (join : X → Y → Y) (all : Result Y Fault) (front : List X) (one : Result X Fault) (more : Result Y Fault)
    → all ≡ so_far join front (one >>= (λ value. more >>= (λ others. Ok (join value others))))
    → (value : T) (after : List X) → Ok (view value) ≡ one → after ≡ front ++ view value ∷ [] → all ≡ so_far join after more
turn_more view join all front one more is value after has pushed = one_more join all front one more is (view value) after (sym has) pushed
