-- What a change leaves has different keys and short names, and is what the fates leave.
use Rattle.std.proofs.Common.{◌≡◌, ◌||◌, Bool, true, false, if◌then◌else◌, List, [], ◌∷◌, ◌++◌, filter, flat_map, map, Some, refl, sym, ap, ◌∙◌}
use Rattle.std.specs.List.{AllByRecursion, list_any}
use Rattle.std.proofs.lemmas.List.Folds.{list_any-append}
use Rattle.rz_core.proofs.Tests.{or_false}
use Rattle.rz_core.specs.Resources.{same_key, KeysDiffer}
use Rattle.rz_core.specs.declared.resource.Resource.{Resource}
use Rattle.rz_set.specs.After.{under_head, HasShortName}
use Rattle.rz_set.specs.Change.{changed, is_taken}
use Rattle.rz_set.specs.Fates.{all_left, fate_of, StayApart}
use Rattle.rz_set.specs.ResSet.{AreNamed}
use Rattle.rz_set.specs.declared.change.Fate.{Fate}
use Rattle.rz_set.specs.declared.change.Fate.TheVariants.{Stays, GivesWay, ComesUnder}
use Rattle.rz_set.specs.declared.pick.Head.{Head}
use Rattle.rz_set.proofs.Includes.{named_under}
use Rattle.rz_set.proofs.Named.{parts}
use Rattle.rz_set.proofs.Puts.{flipped}

-- none of these has the key of a resource
abbrev None_like : List Resource → Resource → Type 0
None_like list r = list_any (λ b. same_key b r) list ≡ false

one_more : (list : List Resource) (y r : Resource) → None_like list r → same_key y r ≡ false → None_like (list ++ y ∷ []) r
one_more list y r none other = list_any-append (λ b. same_key b r) list (y ∷ []) ∙ λ i. none i || (other i || false)

pub or_nothing : (b : Bool) → (b || false) ≡ false → b ≡ false
or_nothing true is = is
or_nothing false is = refl

module _ (test : Resource → Bool) (head : Head) where
  -- what comes under the head is like none that stays
  abbrev Comes : (Resource → Bool) → Resource → Type 0
  Comes taken r = test r ≡ true → (x : Resource) → taken x ≡ false → same_key (under_head head r) x ≡ false

  -- what may be left of a resource is like none of these
  abbrev IsNew : (Resource → Bool) → List Resource → Resource → Type 0
  IsNew taken kept r = (test r ≡ true → None_like kept (under_head head r)) × (test r ≡ false → taken r ≡ false → None_like kept r)

  abbrev IsCovered : (Resource → Bool) → List Resource → List Resource → Type 0
  IsCovered taken before kept = (r : Resource) → Comes taken r → None_like before r → IsNew taken kept r

  abbrev place : (Resource → Bool) → Resource → List Resource
  place taken r = if test r then under_head head r ∷ [] else if taken r then [] else r ∷ []

  module _ (apart : StayApart test head) (taken : Resource → Bool) where
    unlike : (x r : Resource) → test x ≡ true → test r ≡ true → same_key x r ≡ false → same_key (under_head head x) (under_head head r) ≡ false
    unlike x r one two other = by (same_key (under_head head x) (under_head head r)) refl
      where
        by : (b : Bool) → same_key (under_head head x) (under_head head r) ≡ b → b ≡ false
        by true is = sym (apart x r one two is) ∙ other
        by false is = refl

    with_changed : (before kept : List Resource) (x : Resource) → IsCovered taken before kept → Comes taken x → test x ≡ true
        → IsCovered taken (before ++ x ∷ []) (kept ++ under_head head x ∷ [])
    with_changed before kept x covered comes is r new none =
        let apart_from = parts before x r none in
        let was : IsNew taken kept r = covered r new apart_from.0 in (
          λ one. one_more kept (under_head head x) (under_head head r) (was.0 one) (unlike x r is one (or_nothing (same_key x r) apart_from.1)),
          λ two free. one_more kept (under_head head x) r (was.1 two free) (comes is r free),
        )

    with_same : (before kept : List Resource) (x : Resource) → IsCovered taken before kept → taken x ≡ false
        → IsCovered taken (before ++ x ∷ []) (kept ++ x ∷ [])
    with_same before kept x covered stays r new none =
        let apart_from = parts before x r none in
        let was : IsNew taken kept r = covered r new apart_from.0 in (
          λ one. one_more kept x (under_head head r) (was.0 one) (flipped x (under_head head r) ∙ new one x stays),
          λ two free. one_more kept x r (was.1 two free) (or_nothing (same_key x r) apart_from.1),
        )

    without : (before kept : List Resource) (x : Resource) → IsCovered taken before kept → IsCovered taken (before ++ x ∷ []) kept
    without before kept x covered r new none = covered r new (parts before x r none).0

    differ_places : (before kept list : List Resource) → AllByRecursion (Comes taken) list → IsCovered taken before kept
        → KeysDiffer before list → KeysDiffer kept (flat_map (place taken) list)
    differ_places before kept [] comes covered differ = tt
    differ_places before kept (x ∷ xs) comes covered differ =
        by (λ more covers. differ_places (before ++ x ∷ []) more xs comes.1 covers differ.1) (test x) refl (taken x) refl
      where
        new : IsNew taken kept x
        new = covered x comes.0 differ.0

        by : ((more : List Resource) → IsCovered taken (before ++ x ∷ []) more → KeysDiffer more (flat_map (place taken) xs))
            → (b : Bool) → test x ≡ b → (t : Bool) → taken x ≡ t
            → KeysDiffer kept ((if b then under_head head x ∷ [] else if t then [] else x ∷ []) ++ flat_map (place taken) xs)
        by later true is t free = (new.0 is, later (kept ++ under_head head x ∷ []) (with_changed before kept x covered comes.0 is))
        by later false is true free = later kept (without before kept x covered)
        by later false is false free = (new.1 is free, later (kept ++ x ∷ []) (with_same before kept x covered free))

  -- the same as is_taken of one more, by what the test says of it
  abbrev taken_if : Resource → List Resource → Resource → Bool → Bool
  taken_if r rs x b = list_any (λ new. same_key new x) (map (under_head head) (if b then r ∷ filter test rs else filter test rs))

  -- each that comes under the head takes its key
  all_come : (all list : List Resource) → ((x : Resource) → is_taken test head all x ≡ false → is_taken test head list x ≡ false)
      → AllByRecursion (Comes (is_taken test head all)) list
  all_come all [] fewer = tt
  all_come all (r ∷ rs) fewer = (λ is x free. here is x (fewer x free), all_come all rs (λ x free. there x (test r) (fewer x free)))
    where
      here : test r ≡ true → (x : Resource) → taken_if r rs x (test r) ≡ false → same_key (under_head head r) x ≡ false
      here is x free = (or_false (same_key (under_head head r) x) (is_taken test head rs x) (ap (taken_if r rs x) (sym is) ∙ free)).0

      there : (x : Resource) (b : Bool) → taken_if r rs x b ≡ false → is_taken test head rs x ≡ false
      there x true free = (or_false (same_key (under_head head r) x) (is_taken test head rs x) free).1
      there x false free = free

  pub differ_changed : StayApart test head → (list : List Resource) → KeysDiffer [] list → KeysDiffer [] (changed test head list)
  differ_changed apart list differ =
      differ_places apart (is_taken test head list) [] [] list (all_come list list (λ x free. free)) (λ r comes none. (λ one. refl, λ two free. refl)) differ

  named_places : (taken : Resource → Bool) (list : List Resource) → HasShortName (Some head) → AreNamed list → AreNamed (flat_map (place taken) list)
  named_places taken [] short named = tt
  named_places taken (x ∷ xs) short named = by (named_places taken xs short named.1) (test x) (taken x)
    where
      by : AreNamed (flat_map (place taken) xs) → (b t : Bool)
          → AreNamed ((if b then under_head head x ∷ [] else if t then [] else x ∷ []) ++ flat_map (place taken) xs)
      by later true t = (named_under (Some head) x short named.0, later)
      by later false true = later
      by later false false = (named.0, later)

  pub named_changed : (list : List Resource) → HasShortName (Some head) → AreNamed list → AreNamed (changed test head list)
  named_changed list short named = named_places (is_taken test head list) list short named

  abbrev fate_if : Bool → Bool → Fate
  fate_if b t = if b then ComesUnder head else if t then GivesWay else Stays

  places_left : (taken : Resource → Bool) (list : List Resource) → all_left (map (λ r. fate_if (test r) (taken r)) list) list ≡ flat_map (place taken) list
  places_left taken [] = refl
  places_left taken (x ∷ xs) = by (places_left taken xs) (test x) (taken x)
    where
      by : all_left (map (λ r. fate_if (test r) (taken r)) xs) xs ≡ flat_map (place taken) xs → (b t : Bool)
          → all_left (fate_if b t ∷ map (λ r. fate_if (test r) (taken r)) xs) (x ∷ xs)
          ≡ (if b then under_head head x ∷ [] else if t then [] else x ∷ []) ++ flat_map (place taken) xs
      by later true t = ap (λ (l : List Resource). under_head head x ∷ l) later
      by later false true = later
      by later false false = ap (λ (l : List Resource). x ∷ l) later

  -- what the fates leave
  pub changed_left : (list : List Resource) → all_left (map (fate_of test head list) list) list ≡ changed test head list
  changed_left list = places_left (is_taken test head list) list
