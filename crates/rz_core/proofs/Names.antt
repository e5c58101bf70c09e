-- Each number of the table of faults has a name: a test of the numbers below 465. So there is a line for each fault
-- that refuses.
use Rattle.std.proofs.Common.{◌≡◌, ℕ, ◌<◌, Bool, true, false, ◌||◌, not, List, Option, Some, None, refl, arith}
use Rattle.std.specs.Prelude.{◌==◌, IsSome}
use Rattle.std.specs.Option.{is_some, option_copied}
use Rattle.std.specs.Borrow.{Bor}
use Rattle.std.proofs.lemmas.Bool.{agree_below_at}
use Rattle.std.proofs.lemmas.Bool.Decides.{nat_tests}
use Rattle.rz_core.specs.Message.{fault_name, is_named, HasLine, IsNameable}
use Rattle.rz_core.specs.declared.fault.Fault.{Fault}

table : (number : ℕ) → number < 465 → (not (is_named number) || is_some (fault_name number)) ≡ true
table number below = agree_below_at (λ k. not (is_named k) || is_some (fault_name k)) (λ k. true) 465 number refl below

is_below : (number : ℕ) → is_named number ≡ true → number < 465
is_below number is = grind (arith, nat_tests)

implied : (b c : Bool) → (not b || c) ≡ true → b ≡ true → c ≡ true
implied true c is there = is
implied false c is there = absurd cc

pub named : (number : ℕ) → is_named number ≡ true → IsSome (fault_name number)
named number is = implied (is_named number) (is_some (fault_name number)) (table number (is_below number is)) is

pub has_name : (number : ℕ) (name : Option (Bor (List ℕ))) → is_named number ≡ true → option_copied name ≡ fault_name number → IsSome name
has_name number (Some name) is same = refl
has_name number None is same = absurd (none_named (fault_name number) same (named number is))
  where
    none_named : (o : Option (List ℕ)) → None ≡ o → IsSome o → ⊥
    none_named None same is = cc
    none_named (Some name) same is = cc

either : (b c : Bool) → b ≡ true → (b || c) ≡ true
either true c is = refl
either false c is = absurd cc

pub has_line : (files : ℕ) (fault : Fault) → IsNameable files fault → HasLine files fault
has_line files fault is = record { number = either _ (fault.number == 240) is.number; place = is.place }
