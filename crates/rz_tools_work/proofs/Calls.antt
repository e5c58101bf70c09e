-- Calls one after the other that change a list or the work so far.
use Rattle.std.proofs.Common.{◌≡◌, Ok, Err, sym, ap, subst}
use Rattle.std.specs.declared.result.Result.{Result}
use Rattle.rz_core.specs.Stop.{Gives, OnFault, ◌>>=◌, IsReadFault, OnRefusal, Yields, halted, left, Meets}
use Rattle.rz_core.specs.declared.fault.Fault.{Fault}
use Rattle.rz_core.specs.declared.stop.Stop.{Stop}
use Rattle.rz_core.specs.declared.stop.Halt.{Halt}
use Rattle.rz_core.specs.declared.stop.Halt.TheVariants.{NoMemory, ReadFault, Refused}
use Rattle.rz_core.specs.declared.stop.Stop.TheVariants as stops

-- a call that reads no files, as one that does
pub went_as : {Y : Type 0} (answers : Result Y Fault → Type 0) (ended : Result (Unit {0}) (Stop Fault)) (result : Result (Unit {0}) (Halt Fault)) (after : Y)
    → result ≡ halted ended → Meets (left after ended) answers → Yields (left after result) answers
went_as {Y} answers ended result after is so = subst (λ (r : Result (Unit {0}) (Halt Fault)). Yields (left after r) answers) (sym is) (by ended so)
  where
    by : (ended : Result (Unit {0}) (Stop Fault)) → Meets (left after ended) answers → Yields (left after (halted ended)) answers
    by (Ok nothing) so = so
    by (Err (stops.Refused fault)) so = so
    by (Err stops.NoMemory) so = tt

module _ {X Y : Type 0} (first : Result X Fault) (next : X → Result Y Fault) where
  pub stepped_stop : (stop : Stop Fault) (after : Y) → Gives {X = X} first (Err stop) → Meets (left after (Err stop)) (λ answer. answer ≡ (first >>= next))
  stepped_stop (stops.Refused fault) after is = sym (ap (λ (a : Result X Fault). a >>= next) is)
  stepped_stop stops.NoMemory after is = tt

  pub stepped_on : (value : X) (ended : Result (Unit {0}) (Stop Fault)) (after : Y) → first ≡ Ok value → Meets (left after ended) (λ answer. answer ≡ next value)
      → Meets (left after ended) (λ answer. answer ≡ (first >>= next))
  stepped_on value ended after is so = subst (λ (a : Result X Fault). Meets (left after ended) (λ answer. answer ≡ (a >>= next))) (sym is) so

  pub went_halt : (halt : Halt Fault) (after : Y) → Yields {X = X} (Err halt) (λ answer. answer ≡ first) → Yields (left after (Err halt)) (λ answer. answer ≡ (first >>= next))
  went_halt (Refused fault) after is = ap (λ (a : Result X Fault). a >>= next) is
  went_halt ReadFault after is = tt
  went_halt NoMemory after is = tt

  pub went_on : (value : X) (ended : Result (Unit {0}) (Stop Fault)) (result : Result (Unit {0}) (Halt Fault)) (after : Y) → Ok value ≡ first → result ≡ halted ended
      → Meets (left after ended) (λ answer. answer ≡ next value) → Yields (left after result) (λ answer. answer ≡ (first >>= next))
  went_on value ended result after is same so = went_as (λ answer. answer ≡ (first >>= next)) ended result after same (stepped_on value ended after (sym is) so)

pub halted_refuses : (ended : Result (Unit {0}) (Stop Fault)) (result : Result (Unit {0}) (Halt Fault)) (P : Fault → Type 0) → result ≡ halted ended → OnFault ended P → OnRefusal result P
halted_refuses ended result P is so = subst (λ (r : Result (Unit {0}) (Halt Fault)). OnRefusal r P) (sym is) (by ended so)
  where
    by : (ended : Result (Unit {0}) (Stop Fault)) → OnFault ended P → OnRefusal (halted ended) P
    by (Ok nothing) so = tt
    by (Err (stops.Refused fault)) so = so
    by (Err stops.NoMemory) so = tt

pub halted_unread : (ended : Result (Unit {0}) (Stop Fault)) (result : Result (Unit {0}) (Halt Fault)) → result ≡ halted ended → IsReadFault result → ⊥
halted_unread ended result is failed = by ended (subst (λ (r : Result (Unit {0}) (Halt Fault)). IsReadFault r) is failed)
  where
    by : (ended : Result (Unit {0}) (Stop Fault)) → IsReadFault (halted ended) → ⊥
    by (Ok nothing) failed = failed
    by (Err (stops.Refused fault)) failed = failed
    by (Err stops.NoMemory) failed = failed
