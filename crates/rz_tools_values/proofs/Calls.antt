-- Calls one after the other: a call that stops stops all, and one that gives a value goes on with it.
use Rattle.std.proofs.Common.{◌≡◌, Ok, Err, sym, ap, subst}
use Rattle.std.specs.declared.result.Result.{Result}
use Rattle.rz_core.specs.Stop.{Gives, OnFault, ◌>>=◌, halt_of, IsReadFault, OnRefusal, Yields}
use Rattle.rz_core.specs.declared.fault.Fault.{Fault}
use Rattle.rz_core.specs.declared.stop.Stop.{Stop}
use Rattle.rz_folder.proofs.Reading as reading
use Rattle.rz_folder.proofs.Reading.{reads_as}
use Rattle.rz_folder.specs.OnlyReads.{OnlyReads}
use Rattle.rz_folder.specs.declared.folder.Folder.{Ghosts}
use Rattle.rz_core.specs.declared.stop.Halt.{Halt}
use Rattle.rz_core.specs.declared.stop.Halt.TheVariants.{NoMemory, ReadFault, Refused}
use Rattle.rz_core.specs.declared.stop.Stop.TheVariants as stops

module _ {X Y : Type 0} (first : Result X Fault) (next : X → Result Y Fault) where
  pub gives_stop : (stop : Stop Fault) → Gives {X = X} first (Err stop) → Gives {X = Y} (first >>= next) (Err stop)
  gives_stop (stops.Refused fault) is = ap (λ (a : Result X Fault). a >>= next) is
  gives_stop stops.NoMemory is = tt

  pub yields_stop : (stop : Stop Fault) (halt : Halt Fault) → halt ≡ halt_of stop → Gives {X = X} first (Err stop) → Yields {X = Y} (Err halt) (λ answer. answer ≡ (first >>= next))
  yields_stop stop halt is gives = subst (λ (h : Halt Fault). Yields {X = Y} (Err h) (λ answer. answer ≡ (first >>= next))) (sym is) (by stop gives)
    where
      by : (stop : Stop Fault) → Gives {X = X} first (Err stop) → Yields {X = Y} (Err (halt_of stop)) (λ answer. answer ≡ (first >>= next))
      by (stops.Refused fault) is = sym (ap (λ (a : Result X Fault). a >>= next) is)
      by stops.NoMemory is = tt

  pub yields_halt : (halt : Halt Fault) → Yields {X = X} (Err halt) (λ answer. answer ≡ first) → Yields {X = Y} (Err halt) (λ answer. answer ≡ (first >>= next))
  yields_halt (Refused fault) is = ap (λ (a : Result X Fault). a >>= next) is
  yields_halt ReadFault is = tt
  yields_halt NoMemory is = tt

  pub yields_on : (value : X) (result : Result Y (Halt Fault)) → Ok value ≡ first → Yields result (λ answer. answer ≡ next value) → Yields result (λ answer. answer ≡ (first >>= next))
  yields_on value result is so = subst (λ (a : Result X Fault). Yields result (λ answer. answer ≡ (a >>= next))) is so

-- the end of a call that reads no files
pub yields_same : (X : Type 0) (given : Result X Fault) (stop : Stop Fault) (halt : Halt Fault) → halt ≡ halt_of stop → Gives {X = X} given (Err stop)
    → Yields {X = X} (Err halt) (λ answer. answer ≡ given)
yields_same X given stop halt is gives = subst (λ (h : Halt Fault). Yields {X = X} (Err h) (λ answer. answer ≡ given)) (sym is) (by stop gives)
  where
    by : (stop : Stop Fault) → Gives {X = X} given (Err stop) → Yields {X = X} (Err (halt_of stop)) (λ answer. answer ≡ given)
    by (stops.Refused fault) is = sym is
    by stops.NoMemory is = tt

-- What holds of a fault.

pub refuses_so : (X Y : Type 0) (stop : Stop Fault) (halt : Halt Fault) (P : Fault → Type 0) → halt ≡ halt_of stop → OnFault {X = X} (Err stop) P → OnRefusal {X = Y} (Err halt) P
refuses_so X Y stop halt P is so = subst (λ (h : Halt Fault). OnRefusal {X = Y} (Err h) P) (sym is) (by stop so)
  where
    by : (stop : Stop Fault) → OnFault {X = X} (Err stop) P → OnRefusal {X = Y} (Err (halt_of stop)) P
    by (stops.Refused fault) so = so
    by stops.NoMemory so = tt

-- What is read.

pub stop_unread : (X : Type 0) (stop : Stop Fault) (halt : Halt Fault) → halt ≡ halt_of stop → IsReadFault {X = X} (Err halt) → ⊥
stop_unread X stop halt is failed = by stop (subst (λ (h : Halt Fault). IsReadFault {X = X} (Err h)) is failed)
  where
    by : (stop : Stop Fault) → IsReadFault {X = X} (Err (halt_of stop)) → ⊥
    by (stops.Refused fault) failed = failed
    by stops.NoMemory failed = failed

module _ {F : Type 0} (g : Ghosts F) where
  -- a call that reads nothing
  pub reads_nothing : (folder : F) (Failed : Type 0) → (Failed → ⊥) → OnlyReads g folder folder Failed
  reads_nothing folder Failed never = reads_as g folder folder never (reading.reads_nothing g folder)

  -- a call that reads, and after it one that doesn't
  pub reads_first : (old new : F) (Failed : Type 0) → (Failed → ⊥) → OnlyReads g old new ⊥ → OnlyReads g old new Failed
  reads_first old new Failed never reads = reads_as g old new never reads
