-- Resources that are chosen: what holds of all holds of these.
use Rattle.std.proofs.Common.{◌≡◌, Bool, true, false, if◌then◌else◌, List, [], ◌∷◌, ◌++◌, refl}
use Rattle.std.specs.List.{list_any, AllByRecursion}
use Rattle.std.proofs.lemmas.Bool.{or_parts}
use Rattle.rz_core.specs.Resources.{same_key, KeysDiffer}
use Rattle.rz_core.specs.declared.resource.OsType.{OsType}
use Rattle.rz_core.specs.declared.resource.Resource.{Resource}
use Rattle.rz_tools_text.specs.Chosen.{chosen, is_chosen}

-- What is tested of a list and one more.

parts : (p : Resource → Bool) (xs : List Resource) (y : Resource) → list_any p (xs ++ y ∷ []) ≡ false → (list_any p xs ≡ false) × (p y ≡ false)
parts p [] y none = (refl, (or_parts (p y) false none).0)
parts p (x ∷ xs) y none =
    let both = or_parts (p x) (list_any p (xs ++ y ∷ [])) none in
    let rest = parts p xs y both.1 in
    (rw both.0 rest.0, rest.1)

joined : (p : Resource → Bool) (xs : List Resource) (y : Resource) → list_any p xs ≡ false → p y ≡ false → list_any p (xs ++ y ∷ []) ≡ false
joined p [] y none last = rw last refl
joined p (x ∷ xs) y none last = let both = or_parts (p x) (list_any p xs) none in rw both.0 (joined p xs y both.1 last)

-- What holds of all resources holds of those that are chosen.

module _ (only skip : List OsType) where
  pub all_chosen : (P : Resource → Type 0) (list : List Resource) → AllByRecursion P list → AllByRecursion P (chosen only skip list)
  all_chosen P [] all = tt
  all_chosen P (r ∷ rs) all = by (is_chosen only skip r.kind) (all_chosen P rs all.1)
    where
      by : (test : Bool) → AllByRecursion P (chosen only skip rs) → AllByRecursion P (if test then r ∷ chosen only skip rs else chosen only skip rs)
      by true rest = (all.0, rest)
      by false rest = rest

  -- the keys of the chosen ones differ, after some of those before
  pub differ_chosen : (front small list : List Resource)
      → ((r : Resource) → list_any (λ b. same_key b r) front ≡ false → list_any (λ b. same_key b r) small ≡ false)
      → KeysDiffer front list → KeysDiffer small (chosen only skip list)
  differ_chosen front small [] fewer differ = tt
  differ_chosen front small (r ∷ rs) fewer differ =
      by (is_chosen only skip r.kind)
      (differ_chosen (front ++ r ∷ []) (small ++ r ∷ []) rs
      (λ x none. let both = parts (λ b. same_key b x) front r none in joined (λ b. same_key b x) small r (fewer x both.0) both.1) differ.1)
      (differ_chosen (front ++ r ∷ []) small rs (λ x none. fewer x (parts (λ b. same_key b x) front r none).0) differ.1)
    where
      by : (test : Bool) → KeysDiffer (small ++ r ∷ []) (chosen only skip rs) → KeysDiffer small (chosen only skip rs)
          → KeysDiffer small (if test then r ∷ chosen only skip rs else chosen only skip rs)
      by true with_it without = (fewer r differ.0, with_it)
      by false with_it without = without
