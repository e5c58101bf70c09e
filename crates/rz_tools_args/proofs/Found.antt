-- What is found of one kind is found of another.
use Rattle.std.proofs.Common.{List, ℕ, true, false, ◌≡◌, Some, None, Ok, Err, subst, IfOk}
use Rattle.std.specs.Prelude.{option_map, Option}
use Rattle.std.specs.declared.result.Result.{Result}
use Rattle.std.specs.Str.{bytes_eq}
use Rattle.std.proofs.lemmas.Slice.Eq.{bytes_eq-Decides}
use Rattle.rz_core.specs.Stop.{Gives, OnFault}
use Rattle.rz_core.specs.declared.stop.Stop.{Stop}
use Rattle.rz_core.specs.declared.stop.Stop.TheVariants.{Refused, NoMemory}
use Rattle.rz_core.specs.Decided.{Decided}

-- words by the test of their bytes
pub same_word : (a b : List ℕ) → bytes_eq a b ≡ true → a ≡ b
same_word a b is = (bytes_eq-Decides a b).0 is

pub differ : (a b : List ℕ) → bytes_eq a b ≡ false → a ≡ b → ⊥
differ a b is eq = let holds : bytes_eq a b ≡ true = (bytes_eq-Decides a b).1 eq in cc

pub never : {X F : Type 0} (x : X) (stop : Stop F) (fault : F) → Gives {X = X} {F = F} (Ok x) (Err stop) → stop ≡ Refused fault → ⊥
never {X = X} {F = F} x stop fault gives is = refused (subst (λ (s : Stop F). Gives {X = X} {F = F} (Ok x) (Err s)) is gives)
  where
    refused : ◌≡◌ {A = Result X F} (Ok x) (Err fault) → ⊥
    refused same = cc same

pub some : {X : Type 0} (x : X) → ◌≡◌ {A = Option X} None (Some x) → ⊥
some x is = cc is

-- where the two say the same of each
pub decided_as : {X : Type 0} (P Q : X → Type 0) → ((x : X) → P x → Q x) → ((x : X) → Q x → P x) → (found : Option X) → Decided P found → Decided Q found
decided_as P Q there back None none = λ x is. none x (back x is)
decided_as P Q there back (Some x) is = there x is

pub decided_all : {X E : Type 0} (P Q : X → Type 0) → ((x : X) → P x → Q x) → ((x : X) → Q x → P x)
    → (result : Result (Option X) E) → IfOk result (Decided P) → IfOk result (Decided Q)
decided_all P Q there back (Ok found) is = decided_as P Q there back found is
decided_all P Q there back (Err fault) is = tt

-- what was found, or not
pub found_so : {X : Type 0} (P : X → Type 0) (found : Option X) (x : X) → Decided P found → found ≡ Some x → P x
found_so P found x decided is = subst (λ f. Decided P f) is decided

pub none_so : {X : Type 0} (P : X → Type 0) (found : Option X) → Decided P found → found ≡ None → (x : X) → P x → ⊥
none_so P found decided is = subst (λ f. Decided P f) is decided

-- the same of what the found one stands for
pub decided_some : {X Y : Type 0} (P : Y → Type 0) (f : X → Y) (found : Option X) (x : X) → Decided P (option_map f found) → found ≡ Some x → P (f x)
decided_some P f found x decided is = subst (λ o. Decided P (option_map f o)) is decided

pub decided_none : {X Y : Type 0} (P : Y → Type 0) (f : X → Y) (found : Option X) → Decided P (option_map f found) → found ≡ None → (y : Y) → P y → ⊥
decided_none P f found decided is = subst (λ o. Decided P (option_map f o)) is decided

-- what holds of a fault
abbrev pub OnStop : {F : Type 0} → Stop F → (F → Type 0) → Type 0
OnStop (Refused fault) P = P fault
OnStop NoMemory P = Unit {0}

-- a call that refused
pub on_stop : {X F : Type 0} (result : Result X (Stop F)) (P : F → Type 0) (stop : Stop F) → OnFault result P → result ≡ Err stop → OnStop stop P
on_stop {X = X} {F = F} result P stop holds is = from stop (subst (λ (r : Result X (Stop F)). OnFault r P) is holds)
  where
    from : (s : Stop F) → OnFault {X = X} {F = F} (Err s) P → OnStop s P
    from (Refused fault) it = it
    from NoMemory it = tt

-- the fault of a call that refused
pub fault_of : {F : Type 0} (P : F → Type 0) (stop : Stop F) (fault : F) → OnStop stop P → stop ≡ Refused fault → P fault
fault_of {F = F} P stop fault holds is = subst (λ (s : Stop F). OnStop s P) is holds
