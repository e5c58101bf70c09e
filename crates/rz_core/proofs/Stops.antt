-- What a call gives, from what its values and its faults are, and from what another call gave.
use Rattle.std.specs.Prelude.{◌≡◌, Ok, Err, IfOk}
use Rattle.std.proofs.Common.{inl, inr, refl, sym, ap, ◌∙◌}
use Rattle.std.specs.declared.result.Result.{Result}
use Rattle.rz_core.proofs.Once.{Once}
use Rattle.rz_core.specs.Answers.{Then}
use Rattle.rz_core.specs.Stop.{◌>>=◌, Gives, Meets, OnFault, Yields}
use Rattle.rz_core.specs.declared.stop.Halt.{Halt}
use Rattle.rz_core.specs.declared.stop.Halt.TheVariants as halts
use Rattle.rz_core.specs.declared.stop.Stop.{Stop}
use Rattle.rz_core.specs.declared.stop.Stop.TheVariants.{Refused, NoMemory}

-- Exactly: where one value at most has P, one fault at most has Q, and not both stand, a call whose values have P and
-- whose faults have Q gives each value and each fault that there is.

module _ {X F : Type 0} (P : X → Type 0) (Q : F → Type 0) (never : (value : X) (fault : F) → P value → Q fault → ⊥) where
  pub gives_value : ((value other : X) → P value → P other → value ≡ other)
      → (result : Result X (Stop F)) → IfOk result P → OnFault result Q → (value : X) → P value → Gives (Ok value) result
  gives_value one (Ok given) ok fault value there = ap (λ (x : X). Ok x) (one value given there ok)
  gives_value one (Err (Refused given)) ok fault value there = absurd (never value given there fault)
  gives_value one (Err NoMemory) ok fault value there = tt

  pub gives_fault : ((fault other : F) → Q fault → Q other → fault ≡ other)
      → (result : Result X (Stop F)) → IfOk result P → OnFault result Q → (fault : F) → Q fault → Gives (Err fault) result
  gives_fault one (Ok given) ok faulty fault there = absurd (never given fault ok there)
  gives_fault one (Err (Refused given)) ok faulty fault there = ap (λ (x : F). Err x) (one fault given there faulty)
  gives_fault one (Err NoMemory) ok faulty fault there = tt

-- what holds of each such fault holds of the one that a call refuses with
pub fault_so : {X F : Type 0} (P Q : F → Type 0) → ((fault : F) → P fault → Q fault) → (result : Result X (Stop F)) → OnFault result P → OnFault result Q
fault_so P Q so (Ok value) fault = tt
fault_so P Q so (Err (Refused given)) fault = so given fault
fault_so P Q so (Err NoMemory) fault = tt

-- What else is answered.

module _ {X F : Type 0} (answers others : Result X F → Type 0) (so : (answer : Result X F) → answers answer → others answer) where
  pub meets_so : (result : Result X (Stop F)) → Meets result answers → Meets result others
  meets_so (Ok value) meets = so (Ok value) meets
  meets_so (Err (Refused fault)) meets = so (Err fault) meets
  meets_so (Err NoMemory) meets = tt

  pub yields_so : (result : Result X (Halt F)) → Yields result answers → Yields result others
  yields_so (Ok value) yields = so (Ok value) yields
  yields_so (Err (halts.Refused fault)) yields = so (Err fault) yields
  yields_so (Err halts.ReadFault) yields = tt
  yields_so (Err halts.NoMemory) yields = tt

-- a call that gives exactly an answer
pub gives_meets : {X F : Type 0} (answer other : Result X F) → answer ≡ other → (result : Result X (Stop F)) → Gives answer result → Meets result (λ given. given ≡ other)
gives_meets answer other same (Ok value) is = sym is ∙ same
gives_meets answer other same (Err (Refused fault)) is = sym is ∙ same
gives_meets answer other same (Err NoMemory) is = tt

-- Every answer: where there is one at most, each that there is is the one that the call gave.

module _ {X F : Type 0} (answers : Result X F → Type 0) (once : Once answers) (answer : Result X F) (is : answers answer) where
  pub gives_every : (result : Result X (Stop F)) → Meets result answers → Gives answer result
  gives_every (Ok value) meets = once answer (Ok value) is meets
  gives_every (Err (Refused fault)) meets = once answer (Err fault) is meets
  gives_every (Err NoMemory) meets = tt

  pub yields_every : (result : Result X (Halt F)) → Yields result answers → Yields result (λ given. given ≡ answer)
  yields_every (Ok value) yields = once (Ok value) answer yields is
  yields_every (Err (halts.Refused fault)) yields = once (Err fault) answer yields is
  yields_every (Err halts.ReadFault) yields = tt
  yields_every (Err halts.NoMemory) yields = tt

-- One call after another.

module _ {X Y F : Type 0} (first : Result X F → Type 0) (next : X → Result Y F → Type 0) where
  pub then_meets : (x : X) → first (Ok x) → (result : Result Y (Stop F)) → Meets result (next x) → Meets result (Then first next)
  then_meets x is (Ok y) so = inl (x, is, so)
  then_meets x is (Err (Refused fault)) so = inl (x, is, so)
  then_meets x is (Err NoMemory) so = tt

  pub then_stops : (stop : Stop F) → Meets {X = X} (Err stop) first → Meets {X = Y} (Err stop) (Then first next)
  then_stops (Refused fault) is = inr (fault, is, refl)
  then_stops NoMemory is = tt

  pub then_yields : (x : X) → first (Ok x) → (result : Result Y (Halt F)) → Yields result (next x) → Yields result (Then first next)
  then_yields x is (Ok y) so = inl (x, is, so)
  then_yields x is (Err (halts.Refused fault)) so = inl (x, is, so)
  then_yields x is (Err halts.ReadFault) so = tt
  then_yields x is (Err halts.NoMemory) so = tt

  pub then_halts : (halt : Halt F) → Yields {X = X} (Err halt) first → Yields {X = Y} (Err halt) (Then first next)
  then_halts (halts.Refused fault) is = inr (fault, is, refl)
  then_halts halts.ReadFault is = tt
  then_halts halts.NoMemory is = tt

-- a call that stops, and stops all
pub gives_stop : {X Y F : Type 0} (first : Result X F) (next : X → Result Y F) → (stop : Stop F) → Gives {X = X} first (Err stop) → Gives {X = Y} (first >>= next) (Err stop)
gives_stop first next (Refused fault) is = ap (λ (answer : Result _ _). answer >>= next) is
gives_stop first next NoMemory is = tt

-- an end of a call, of what else is answered
pub halt_so : {X Y F : Type 0} (halt : Halt F) (answers : Result X F → Type 0) (others : Result Y F → Type 0) → ((fault : F) → answers (Err fault) → others (Err fault))
    → Yields {X = X} (Err halt) answers → Yields {X = Y} (Err halt) others
halt_so (halts.Refused fault) answers others so yields = so fault yields
halt_so halts.ReadFault answers others so yields = tt
halt_so halts.NoMemory answers others so yields = tt
