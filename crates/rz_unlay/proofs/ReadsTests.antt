-- What tests and options tell.
use Rattle.std.proofs.Common.{◌≡◌, ℕ, ◌<◌, ◌≤◌, ◌==◌, Bool, true, false, ◌&&◌, ◌||◌, not, Option, Some, None, refl, sym, ap, ◌∙◌, arith}
use Rattle.std.specs.Prelude.{if◌then◌else◌, nat_le, nat_lt, option_and_then, option_map}
use Rattle.std.specs.Option.{is_some}
use Rattle.std.proofs.lemmas.Bool.Decides.{nat_tests}

-- Options.

pub some_is : {A : Type 0} (a b : A) → Some a ≡ Some b → a ≡ b
some_is a b is = cc

pub some_same : {A : Type 0} (x y : A) → Some x ≡ Some y → x ≡ y
some_same x y is = cc

pub none_is : {A : Type 0} (x : A) → ◌≡◌ {A = Option A} None (Some x) → ⊥
none_is x is = cc is

pub there_is : (o : Option ℕ) → is_some o ≡ true → (n : ℕ) × (o ≡ Some n)
there_is None is = absurd cc
there_is (Some n) is = (n, refl)

pub and_then : {A B : Type 0} (next : A → Option B) (first : Option A) (y : B) → option_and_then next first ≡ Some y → (x : A) × (first ≡ Some x) × (next x ≡ Some y)
and_then next None y is = absurd (none_is y is)
and_then next (Some x) y is = (x, refl, is)

pub so_then : {A B : Type 0} (next : A → Option B) (first : Option A) (x : A) (y : B) → first ≡ Some x → next x ≡ Some y → option_and_then next first ≡ Some y
so_then next first x y one other = ap (option_and_then next) one ∙ other

pub mapped : {A B : Type 0} (make : A → B) (first : Option A) (y : B) → option_map make first ≡ Some y → (x : A) × (first ≡ Some x) × (make x ≡ y)
mapped make None y is = absurd (none_is y is)
mapped make (Some x) y is = (x, refl, some_same (make x) y is)

-- Tests.

pub both_true : (a b : Bool) → (a && b) ≡ true → (a ≡ true) × (b ≡ true)
both_true true true is = (refl, refl)
both_true true false is = absurd cc
both_true false b is = absurd cc

pub not_true : (a : Bool) → not a ≡ true → a ≡ false
not_true true is = absurd cc
not_true false is = refl

-- by the two cases of a test
pub by_case : {P : Type 0} (test : Bool) → (test ≡ true → P) → (test ≡ false → P) → P
by_case true holds fails = holds refl
by_case false holds fails = fails refl

pub by_test : {P : Type 0} (test : Bool) (x y : Bool) → (test ≡ true → x ≡ true → P) → (test ≡ false → y ≡ true → P) → (if test then x else y) ≡ true → P
by_test true x y one other is = one refl is
by_test false x y one other is = other refl is

pub either_of : {P : Type 0} (a b : Bool) → (a ≡ true → P) → (b ≡ true → P) → (a || b) ≡ true → P
either_of true b one other is = one refl
either_of false b one other is = other is

pub left_true : (a b : Bool) → a ≡ true → (a || b) ≡ true
left_true true b is = refl
left_true false b is = absurd cc

pub right_true : (a b : Bool) → b ≡ true → (a || b) ≡ true
right_true true b is = refl
right_true false b is = is

pub neither : (a b : Bool) → (a || b) ≡ false → (a ≡ false) × (b ≡ false)
neither true b is = absurd cc
neither false b is = (refl, is)

pub not_both : {P : Type 0} (test : Bool) → test ≡ true → test ≡ false → P
not_both test one other = absurd (let wrong : true ≡ false = sym one ∙ other in cc)

pub if_true : {A : Type 0} (test : Bool) (x y : A) → test ≡ true → (if test then x else y) ≡ x
if_true test x y is = ap (λ (b : Bool). if b then x else y) is

pub if_false : {A : Type 0} (test : Bool) (x y : A) → test ≡ false → (if test then x else y) ≡ y
if_false test x y is = ap (λ (b : Bool). if b then x else y) is

-- an answer after a test, or none
pub if_some : {A : Type 0} (test : Bool) (x : A) (y : A) → (if test then Some x else None) ≡ Some y → (test ≡ true) × (x ≡ y)
if_some true x y is = (refl, some_same x y is)
if_some false x y is = absurd (none_is y is)

-- Numbers.

pub below : (a b : ℕ) → a < b → nat_lt a b ≡ true
below a b less = grind (arith, nat_tests)

pub not_below : (a b : ℕ) → b ≤ a → nat_lt a b ≡ false
not_below a b less = grind (arith, nat_tests)

pub at_most : (a b : ℕ) → a ≤ b → nat_le a b ≡ true
at_most a b less = grind (arith, nat_tests)

pub itself : (n : ℕ) → (n == n) ≡ true
itself n = grind (arith, nat_tests)
