-- What follows where one answer is made of another.
use Rattle.std.proofs.Common.{◌≡◌, Bool, true, false, inl, inr, sym, refl}
use Rattle.std.specs.Prelude.{◌⊎◌, Ok, Err, if◌then◌else◌}
use Rattle.std.specs.declared.result.Result.{Result}
use Rattle.rz_core.specs.Stop.{◌>>=◌}

pub same_ok : {X F : Type 0} (x y : X) → ◌≡◌ {A = Result X F} (Ok x) (Ok y) → x ≡ y
same_ok x y e = cc

pub same_err : {X F : Type 0} (x y : F) → ◌≡◌ {A = Result X F} (Err x) (Err y) → x ≡ y
same_err x y e = cc

pub ok_err : {X F : Type 0} (x : X) (y : F) → ◌≡◌ {A = Result X F} (Ok x) (Err y) → ⊥
ok_err x y e = cc

-- a value comes of a value
pub then_ok : {X Y F : Type 0} (first : Result X F) (next : X → Result Y F) (y : Y) → (first >>= next) ≡ Ok y → (x : X) × (first ≡ Ok x) × (next x ≡ Ok y)
then_ok (Ok x) next y e = (x, refl, e)
then_ok (Err fault) next y e = absurd (ok_err y fault (sym e))

-- a fault comes of the first answer, or of the second
pub then_err : {X Y F : Type 0} (first : Result X F) (next : X → Result Y F) (fault : F) → (first >>= next) ≡ Err fault
    → (first ≡ Err fault) ⊎ ((x : X) × (first ≡ Ok x) × (next x ≡ Err fault))
then_err (Ok x) next fault e = inr (x, refl, e)
then_err {X} {Y} {F} (Err first) next fault e = inl (let same : first ≡ fault = same_err {X = Y} first fault e in λ i. Err (same i))

-- a value by a test
pub if_ok : {X F : Type 0} (test : Bool) (x y : X) (fault : F) → (if test then Ok x else Err fault) ≡ Ok y → (test ≡ true) × (x ≡ y)
if_ok true x y fault e = (refl, same_ok x y e)
if_ok false x y fault e = absurd (ok_err y fault (sym e))

pub if_err : {X F : Type 0} (test : Bool) (x : X) (fault other : F) → (if test then Ok x else Err fault) ≡ Err other → (test ≡ false) × (fault ≡ other)
if_err true x fault other e = absurd (ok_err x other e)
if_err false x fault other e = (refl, same_err fault other e)

-- a fault by a test
pub unless_ok : {X F : Type 0} (test : Bool) (x y : X) (fault : F) → (if test then Err fault else Ok x) ≡ Ok y → (test ≡ false) × (x ≡ y)
unless_ok true x y fault e = absurd (ok_err y fault (sym e))
unless_ok false x y fault e = (refl, same_ok x y e)

pub unless_err : {X F : Type 0} (test : Bool) (x : X) (fault other : F) → (if test then Err fault else Ok x) ≡ Err other → (test ≡ true) × (fault ≡ other)
unless_err true x fault other e = (refl, same_err fault other e)
unless_err false x fault other e = absurd (ok_err x other e)
