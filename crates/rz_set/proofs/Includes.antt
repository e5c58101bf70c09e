-- What an inclusion puts.
use Rattle.std.proofs.Common.{◌≡◌, ℕ, ◌<◌, Bool, true, false, if◌then◌else◌, List, [], ◌∷◌, filter, length, map, Option, Some, None, refl, ap}
use Rattle.std.specs.Option.{unwrap_or}
use Rattle.rz_core.specs.declared.resource.Resource.{Resource}
use Rattle.rz_set.specs.After.{under, HasShortName}
use Rattle.rz_set.specs.ResSet.{AreNamed}
use Rattle.rz_set.specs.Wanted.{is_included}
use Rattle.rz_set.specs.declared.pick.Head.{Head}
use Rattle.rz_set.specs.declared.wanted.Included.TheVariants as everything

pub all_included : (list : List Resource) → filter (is_included everything.All) list ≡ list
all_included [] = refl
all_included (x ∷ xs) = ap (λ (l : List Resource). x ∷ l) (all_included xs)

-- Copies.

short_or : (o : Option (List ℕ)) (name : List ℕ) → length (unwrap_or o []) < 256 → length name < 256 → length (unwrap_or o name) < 256
short_or None name given own = own
short_or (Some other) name given own = given

pub named_under : (head : Option Head) (r : Resource) → HasShortName head → length r.name < 256 → length (under head r).name < 256
named_under None r given own = own
named_under (Some head) r given own = short_or head.name r.name given own

pub named_copies : (head : Option Head) (p : Resource → Bool) (list : List Resource) → HasShortName head → AreNamed list → AreNamed (map (under head) (filter p list))
named_copies head p [] given named = tt
named_copies head p (x ∷ xs) given named = by (named_copies head p xs given named.1) (p x)
  where
    by : AreNamed (map (under head) (filter p xs)) → (b : Bool) → AreNamed (map (under head) (if b then x ∷ filter p xs else filter p xs))
    by later true = (named_under head x given named.0, later)
    by later false = later
