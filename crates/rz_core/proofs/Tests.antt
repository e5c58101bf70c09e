-- Tests and their cases.
use Rattle.std.specs.Prelude.{◌≡◌, refl, ℕ, ◌==◌, Bool, true, false, ◌&&◌, ◌||◌, Option, Some, None}
use Rattle.std.proofs.Common.{arith}
use Rattle.std.proofs.lemmas.Bool.Decides.{nat_tests}

-- by the two cases of a test
pub by_test : (P : Type 0) (b : Bool) → (b ≡ true → P) → (b ≡ false → P) → P
by_test P true holds fails = holds refl
by_test P false holds fails = fails refl

-- a test that two tests make, in its parts
pub both : (a b : Bool) → (a && b) ≡ true → (a ≡ true) × (b ≡ true)
both true b is = (refl, is)
both false b is = cc

-- and put together again
pub and_so : (a b : Bool) → a ≡ true → b ≡ true → (a && b) ≡ true
and_so true b one other = other
and_so false b one other = cc

pub or_false : (a b : Bool) → (a || b) ≡ false → (a ≡ false) × (b ≡ false)
or_false true b is = cc
or_false false b is = (refl, is)

pub true_false : true ≡ false → ⊥
true_false is = cc is

-- two numbers are equal either way round
pub same_sym : (a b : ℕ) → (a == b) ≡ (b == a)
same_sym a b = grind (arith, nat_tests)

-- what an option holds is one thing, and something
pub same_some : {A : Type 0} (o : Option A) (x y : A) → o ≡ Some x → o ≡ Some y → x ≡ y
same_some o x y one other = cc

pub none_some : {A : Type 0} (value : A) → ◌≡◌ {A = Option A} None (Some value) → ⊥
none_some value is = cc is
