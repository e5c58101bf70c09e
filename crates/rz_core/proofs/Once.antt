-- A call has one answer at most.
use Rattle.std.specs.Prelude.{◌≡◌, Ok, Err}
use Rattle.std.proofs.Common.{inl, inr, sym, ap, subst, ◌∙◌}
use Rattle.std.specs.declared.result.Result.{Result}
use Rattle.rz_core.specs.Answers.{Then}

-- at most one answer
abbrev pub Once : {X F : Type 0} → (Result X F → Type 0) → Type 0
Once {X} {F} answers = (one other : Result X F) → answers one → answers other → one ≡ other

abbrev pub ok : {X F : Type 0} → X → Result X F
ok value = Ok value

abbrev pub err : {X F : Type 0} → F → Result X F
err fault = Err fault

pub same_ok : {X F : Type 0} (x y : X) → ok {F = F} x ≡ ok y → x ≡ y
same_ok x y is = cc

pub same_err : {X F : Type 0} (f g : F) → err {X = X} f ≡ err g → f ≡ g
same_err f g is = cc

pub ok_or_err : {X F : Type 0} (x : X) (f : F) → ok x ≡ err f → ⊥
ok_or_err x f is = cc

-- one value at most, one fault at most, and not both
pub once_by : {X F : Type 0} (answers : Result X F → Type 0) → ((x y : X) → answers (Ok x) → answers (Ok y) → x ≡ y)
    → ((f g : F) → answers (Err f) → answers (Err g) → f ≡ g) → ((x : X) (f : F) → answers (Ok x) → answers (Err f) → ⊥) → Once answers
once_by answers values faults never (Ok x) (Ok y) a b = ap ok (values x y a b)
once_by answers values faults never (Ok x) (Err g) a b = absurd (never x g a b)
once_by answers values faults never (Err f) (Ok y) a b = absurd (never y f b a)
once_by answers values faults never (Err f) (Err g) a b = ap err (faults f g a b)

pub once_is : {X F : Type 0} (answer : Result X F) → Once (λ given. given ≡ answer)
once_is answer one other a b = a ∙ sym b

pub once_then : {X Y F : Type 0} (first : Result X F → Type 0) (next : X → Result Y F → Type 0) → Once first → ((x : X) → Once (next x)) → Once (Then first next)
once_then {X} {Y} {F} first next f n one other (inl a) (inl b) =
    n b.0 one other (subst (λ (x : X). next x one) (same_ok {F = F} a.0 b.0 (f (Ok a.0) (Ok b.0) a.1 b.1)) a.2) b.2
once_then first next f n one other (inl a) (inr b) = absurd (ok_or_err a.0 b.0 (f (Ok a.0) (Err b.0) a.1 b.1))
once_then first next f n one other (inr a) (inl b) = absurd (ok_or_err b.0 a.0 (f (Ok b.0) (Err a.0) b.1 a.1))
once_then {X} {Y} {F} first next f n one other (inr a) (inr b) = a.2 ∙ ap err (same_err {X = X} a.0 b.0 (f (Err a.0) (Err b.0) a.1 b.1)) ∙ sym b.2
