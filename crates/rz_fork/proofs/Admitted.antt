-- What is admitted as a fork has differing pairs of type and id, and resources that a fork can hold.
use Rattle.std.proofs.Common.{◌≡◌, ℕ, zero, suc, ◌<◌, ◌==◌, if◌then◌else◌, Bool, true, false, List, [], ◌∷◌, length, Option, Some, None, Ok, refl, sym, ◌∙◌, arith, subst}
use Rattle.std.specs.List.{AllByRecursion}
use Rattle.rz_core.specs.Lists.{unless_fault}
use Rattle.rz_core.specs.Resources.{KeysDiffer}
use Rattle.rz_core.proofs.Lists.{or_else_none}
use Rattle.rz_fork.specs.declared.fault.ForkFault.{ForkFault}
use Rattle.rz_fork.specs.Layout.{header_of, types_of, the_outline}
use Rattle.rz_fork.specs.Contents.{attributes_of, reserved_of, resources, contents, Fork, FitsFork}
use Rattle.rz_fork.specs.Admit.{inadmissible, admitted}
use Rattle.rz_fork.specs.Code.{map_fault, lists_broken, first_broken}
use Rattle.rz_fork.proofs.Breaking.{tested_is}
use Rattle.rz_fork.proofs.Fits.{AreBytes, all_fit}
use Rattle.rz_fork.proofs.Holding.{lists_hold}
use Rattle.rz_fork.proofs.Keys.{keys_differ}

-- the pairs of type and id differ, and the resources fit
abbrev AreFit : Fork → Type 0
AreFit fork = KeysDiffer [] fork.list × AllByRecursion FitsFork fork.list

each_byte : (bytes : List ℕ) → AllByRecursion (λ b. b < 256) bytes → AreBytes bytes
each_byte [] small i = omega arith
each_byte (b ∷ bs) small zero = small.0
each_byte (b ∷ bs) small (suc i) = each_byte bs small.1 i

-- what fits where no rule is broken fits too where there may be no bytes, which hold nothing
fit_by : (empty : Bool) (broken : Option ForkFault) (fork : Fork) → (broken ≡ None → AreFit fork) → (if empty then None else broken) ≡ None
    → AreFit (if empty then record { list = []; attributes = 0; reserved = [] } else fork)
fit_by true broken fork fit none = (tt, tt)
fit_by false broken fork fit none = fit none

lists_fit : (bytes : List ℕ) → AreBytes bytes → lists_broken bytes (the_outline bytes) ≡ None
    → KeysDiffer [] (resources bytes (the_outline bytes)) × AllByRecursion FitsFork (resources bytes (the_outline bytes))
lists_fit bytes small none =
    let o = the_outline bytes in (keys_differ bytes o small (lists_hold bytes o none), all_fit bytes o small)

contents_fit : (bytes : List ℕ) → AreBytes bytes → inadmissible bytes ≡ None → AreFit (contents bytes)
unfolding contents
contents_fit bytes small none =
    let h = header_of bytes in
    let o = the_outline bytes in
    fit_by (length bytes == 0) (first_broken bytes h (types_of bytes h) o)
    (record { list = resources bytes o; attributes = attributes_of bytes h; reserved = reserved_of bytes h })
    (λ unbroken. lists_fit bytes small (or_else_none (map_fault bytes) (lists_broken bytes o) unbroken).1) (sym (tested_is bytes) ∙ none)

-- a value where there is no fault
unfaulted : (broken : Option ForkFault) (value fork : Fork) → unless_fault broken value ≡ Ok fork → (broken ≡ None) × (value ≡ fork)
unfaulted None value fork is = (refl, cc)
unfaulted (Some fault) value fork is = cc

pub admitted_fits : (bytes : List ℕ) → AllByRecursion (λ b. b < 256) bytes → (fork : Fork) → admitted bytes ≡ Ok fork
    → KeysDiffer [] fork.list × AllByRecursion FitsFork fork.list
admitted_fits bytes small fork is =
    let parts = unfaulted (inadmissible bytes) (contents bytes) fork is in
    subst AreFit parts.1 (contents_fit bytes (each_byte bytes small) parts.0)
