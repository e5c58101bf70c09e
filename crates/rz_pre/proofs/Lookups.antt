-- Looking up a frame.
use Rattle.std.proofs.Common.{◌≡◌, ℕ, true, false, List, [], ◌∷◌, ◌++◌, refl, ap}
use Rattle.std.specs.Prelude.{nat_eq}
use Rattle.std.specs.Map.{lookup}
use Rattle.std.specs.Option.{is_some}
use Rattle.indexmap.specs.IndexMap.{insert_entry}
use Rattle.rz_core.proofs.Tests.{by_test}
use Rattle.rz_pre.specs.Steps.{is_inside, Frame}

pub inside_found : (k : ℕ) (fs : List Frame) → is_some (lookup (nat_eq k) fs) ≡ is_inside k fs
inside_found k [] = refl
inside_found k (f ∷ fs) = by_test (is_some (lookup (nat_eq k) (f ∷ fs)) ≡ is_inside k (f ∷ fs)) (nat_eq k f.0) (λ h. rw h refl) (λ h. rw h (inside_found k fs))

-- one that isn't there goes last
pub goes_last : (k n : ℕ) (fs : List Frame) → is_inside k fs ≡ false → insert_entry nat_eq fs k n ≡ fs ++ (k, n) ∷ []
goes_last k n [] fresh = refl
goes_last k n (f ∷ fs) fresh = by_test (insert_entry nat_eq (f ∷ fs) k n ≡ (f ∷ fs) ++ (k, n) ∷ []) (nat_eq k f.0)
    (λ h. (let never : true ≡ false = rw h at fresh in absurd cc))
    (λ h. (let more : is_inside k fs ≡ false = rw h at fresh in rw h (ap (λ (es : List Frame). f ∷ es) (goes_last k n fs more))))
