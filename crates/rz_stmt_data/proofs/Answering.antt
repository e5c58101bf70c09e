-- What is answered, made of what was answered below.
use Rattle.std.proofs.Common.{Option, Some, None, Ok, Err}
use Rattle.std.specs.Prelude.{option_map, IfOk}
use Rattle.std.specs.declared.result.Result.{Result}
use Rattle.rz_core.specs.Decided.{Decided}

-- the same answer to another question of the same meanings
pub decided_so : {X Y : Type 0} (view : Y → X) (P Q : X → Type 0) → ((x : X) → Q x → P x) → ((x : X) → P x → Q x)
    → (found : Option Y) → Decided Q (option_map view found) → Decided P (option_map view found)
decided_so view P Q forth back None holds = λ x is. holds x (back x is)
decided_so view P Q forth back (Some y) holds = forth (view y) holds

pub found_so : {X Y E : Type 0} (view : Y → X) (P Q : X → Type 0) → ((x : X) → Q x → P x) → ((x : X) → P x → Q x)
    → (result : Result (Option Y) E) → IfOk result (λ found. Decided Q (option_map view found)) → IfOk result (λ found. Decided P (option_map view found))
found_so view P Q forth back (Ok found) holds = decided_so view P Q forth back found holds
found_so view P Q forth back (Err fault) holds = holds

pub ok_so : {X E : Type 0} (P Q : X → Type 0) → ((x : X) → P x → Q x) → (result : Result X E) → IfOk result P → IfOk result Q
ok_so P Q so (Ok x) holds = so x holds
ok_so P Q so (Err fault) holds = holds
