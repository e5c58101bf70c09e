-- One call after another, of which the second may read files.
use Rattle.std.proofs.Common.{◌≡◌, inl, inr, Result, Ok, Err, refl, sym}
use Rattle.rz_core.specs.Answers.{Then}
use Rattle.rz_core.specs.Stop.{Meets, Gives, halt_of, Yields}
use Rattle.rz_core.specs.declared.fault.Fault.{Fault}
use Rattle.rz_core.specs.declared.stop.Stop.{Stop}
use Rattle.rz_core.specs.declared.stop.Stop.TheVariants.{NoMemory, Refused}

module _ {X Y : Type 0} (first : Result X Fault → Type 0) (next : X → Result Y Fault → Type 0) where
  pub meets_yields : (x : X) → first (Ok x) → (stop : Stop Fault) → Meets {X = Y} (Err stop) (next x) → Yields {X = Y} (Err (halt_of stop)) (Then first next)
  meets_yields x is (Refused fault) so = inl (x, is, so)
  meets_yields x is NoMemory so = tt

module _ {X Y : Type 0} (given : Result X Fault) (next : X → Result Y Fault → Type 0) where
  -- a call that reads no file, and stops
  pub gives_halt : (stop : Stop Fault) → Gives {X = X} given (Err stop) → Yields {X = Y} (Err (halt_of stop)) (Then (λ answer. answer ≡ given) next)
  gives_halt (Refused fault) is = inr (fault, sym is, refl)
  gives_halt NoMemory is = tt
