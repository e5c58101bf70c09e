-- Bytes that a call appends to others.
use Rattle.std.specs.Prelude.{◌≡◌, ℕ, List, ◌++◌, Ok, Err}
use Rattle.std.specs.declared.result.Result.{Result}
use Rattle.rz_core.specs.Stop.{◌>>=◌}
use Rattle.rz_core.specs.declared.stop.Stop.{Stop}
use Rattle.rz_core.specs.declared.stop.Stop.TheVariants.{Refused, NoMemory}

-- the call appended exactly these bytes, or gave exactly this fault, or memory was refused
abbrev pub Appends : {F : Type 0} → Result (List ℕ) F → List ℕ → Result (Unit {0}) (Stop F) → List ℕ → Type 0
Appends answer old (Ok done) new = (answer >>= λ bytes. Ok (old ++ bytes)) ≡ Ok new
Appends answer old (Err (Refused fault)) new = answer ≡ Err fault
Appends answer old (Err NoMemory) new = Unit {0}
