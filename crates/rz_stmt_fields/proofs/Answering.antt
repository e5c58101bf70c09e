-- What is answered, made of what was answered below.
use Rattle.std.proofs.Common.{◌≡◌, Option, Some, None, Ok, Err, refl, sym, ap, ◌∙◌}
use Rattle.std.specs.Prelude.{option_map, IfOk}
use Rattle.std.specs.declared.result.Result.{Result}
use Rattle.rz_core.specs.Stop.{◌>>=◌, Gives}
use Rattle.rz_core.specs.declared.stop.Stop.{Stop}
use Rattle.rz_core.specs.declared.stop.Stop.TheVariants.{NoMemory, Refused}
use Rattle.rz_core.specs.Decided.{Decided}

pub gives_err : {X Y F : Type 0} (r s : Result X F) (next : X → Result Y F) → s ≡ r → (stop : Stop F) → Gives {X = X} s (Err stop) → Gives {X = Y} (r >>= next) (Err stop)
gives_err r s next same (Refused fault) is = ap (λ (t : Result _ _). t >>= next) (sym same ∙ is)
gives_err r s next same NoMemory is = tt

-- the same answer to another question of the same meanings
pub decided_so : {X Y : Type 0} (view : Y → X) (P Q : X → Type 0) → ((x : X) → Q x → P x) → ((x : X) → P x → Q x)
    → (found : Option Y) → Decided Q (option_map view found) → Decided P (option_map view found)
decided_so view P Q forth back None holds = λ x is. holds x (back x is)
decided_so view P Q forth back (Some y) holds = forth (view y) holds

pub found_so : {X Y E : Type 0} (view : Y → X) (P Q : X → Type 0) → ((x : X) → Q x → P x) → ((x : X) → P x → Q x)
    → (result : Result (Option Y) E) → IfOk result (λ found. Decided Q (option_map view found)) → IfOk result (λ found. Decided P (option_map view found))
found_so view P Q forth back (Ok found) holds = decided_so view P Q forth back found holds
found_so view P Q forth back (Err fault) holds = holds

-- What was made, of what.

pub then_ok : {X Y F : Type 0} (found : Result X F) (next : X → Result Y F) (made : Y) → (found >>= next) ≡ Ok made → (value : X) × (found ≡ Ok value) × (next value ≡ Ok made)
then_ok (Ok value) next made is = (value, refl, is)
then_ok (Err fault) next made is = cc

pub same_ok : {X F : Type 0} (a b : X) → ◌≡◌ {A = Result X F} (Ok a) (Ok b) → a ≡ b
same_ok a b is = cc is
