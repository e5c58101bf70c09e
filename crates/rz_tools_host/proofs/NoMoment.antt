-- A text whose number is no moment tells none.
use mathlib.Core.Path.{◌≡◌, sym, subst, ◌∙◌}
use mathlib.Core.List.{List}
use Prim.Native.Nat.{ℕ, ◌^◌, ◌<◌}
use native.Mathlib.Omega.{arith}
use lib.IntN.{ℤ, pos, negsuc}
use Rattle.std.specs.declared.option.Option.{Option}
use Rattle.std.specs.declared.option.Option.TheVariants.{Some, None}
use Rattle.std.specs.Option.{IfNone, IsSome}
use Rattle.std.proofs.lemmas.Bool.{false≢true}
use Rattle.std.proofs.lemmas.Int.{ints}
use Rattle.std.proofs.lemmas.Fmt.{decimal_injective}
use Rattle.rz_core.specs.Decimal.{decimal_of}
use Rattle.rz_core.specs.Moment.{IsInRange}
use Rattle.rz_tools_host.specs.Epoch.{Tells}

-- where no moment is found of a number, the text of that number tells none
pub nothing_told : {X : Type 0} (found : Option X) (text : List ℕ) (number : ℕ) → number < 2 ^ 64 → text ≡ decimal_of number → (IsInRange (pos number) → IsSome found) → IfNone found ((seconds : ℤ) → Tells text seconds → ⊥)
unfolding decimal_of
nothing_told {X} found text number small is there = by found there
  where
    same : (other : ℕ) → text ≡ decimal_of other → IsInRange (pos other) → other ≡ number
    same other told range = decimal_injective other number (omega (arith, ints, range.1)) (omega arith) (sym told ∙ is)

    by : (found : Option X) → (IsInRange (pos number) → IsSome found) → IfNone found ((seconds : ℤ) → Tells text seconds → ⊥)
    by (Some moment) there = tt
    by None there = none
      where
        none : (seconds : ℤ) → Tells text seconds → ⊥
        none (pos other) told = false≢true (there (subst (λ seconds. IsInRange (pos seconds)) (same other told.0 told.1) told.1))
        none (negsuc other) told = told
