-- The first resource with a name is chosen alone.
use Rattle.std.proofs.Common.{◌≡◌, ℕ, ◌||◌, Bool, true, false, if◌then◌else◌, List, [], ◌∷◌, ◌++◌, filter, Option, Some, None, refl, sym, ap, subst, ◌∙◌}
use Rattle.std.specs.List.{list_any}
use Rattle.std.proofs.lemmas.List.Folds.{list_any-append}
use Rattle.rz_core.proofs.Tests.{or_false}
use Rattle.rz_core.specs.Resources.{same_key, KeysDiffer}
use Rattle.rz_core.specs.declared.resource.OsType.{OsType}
use Rattle.rz_core.specs.declared.resource.Resource.{Resource}
use Rattle.rz_set.specs.After.{as_list}
use Rattle.rz_set.specs.Choice.{chosen, found_name, has_name, is_that}
use Rattle.rz_set.specs.declared.pick.Pick.TheVariants.{Name}
use Rattle.rz_set.proofs.Choices.{own_key}
use Rattle.rz_set.proofs.Puts.{flipped}

-- what has another key than a list and one more has another key than the list, and than the one more
pub parts : (before : List Resource) (x r : Resource) → list_any (λ b. same_key b r) (before ++ x ∷ []) ≡ false
    → (list_any (λ b. same_key b r) before ≡ false) × ((same_key x r || false) ≡ false)
parts before x r none =
    or_false (list_any (λ b. same_key b r) before) (same_key x r || false) (sym (list_any-append (λ b. same_key b r) before (x ∷ [])) ∙ none)

none_that : (list : List Resource) → filter (is_that None) list ≡ []
none_that [] = refl
none_that (x ∷ xs) = none_that xs

-- a resource among those before has another key than each one after
module _ (x : Resource) where
  apart : (before xs : List Resource) → ((r : Resource) → list_any (λ b. same_key b r) before ≡ false → same_key x r ≡ false)
      → KeysDiffer before xs → filter (same_key x) xs ≡ []
  apart before [] out differ = refl
  apart before (y ∷ ys) out differ =
      ap (λ (b : Bool). if b then y ∷ filter (same_key x) ys else filter (same_key x) ys) (out y differ.0)
      ∙ apart (before ++ y ∷ []) ys (λ r none. out r (parts before y r none).0) differ.1

  other : (kind : OsType) (name : List ℕ) (one : Resource) (before xs : List Resource)
      → ((r : Resource) → list_any (λ b. same_key b r) before ≡ false → same_key x r ≡ false)
      → KeysDiffer before xs → found_name kind name xs ≡ Some one → same_key x one ≡ false
  other kind name one before [] out differ is = cc
  other kind name one before (y ∷ ys) out differ is =
      by (other kind name one (before ++ y ∷ []) ys (λ r none. out r (parts before y r none).0) differ.1) (has_name kind name y) is
    where
      by : (found_name kind name ys ≡ Some one → same_key x one ≡ false) → (b : Bool)
          → (if b then Some y else found_name kind name ys) ≡ Some one → same_key x one ≡ false
      by later true is = let same : y ≡ one = cc in subst (λ r. same_key x r ≡ false) same (out y differ.0)
      by later false is = later is

module _ (kind : OsType) (name : List ℕ) where
  alone : (before list : List Resource) → KeysDiffer before list → (one : Resource) → found_name kind name list ≡ Some one → filter (same_key one) list ≡ one ∷ []
  alone before [] differ one is = cc
  alone before (x ∷ xs) differ one is = by (alone (before ++ x ∷ []) xs differ.1 one) (has_name kind name x) is
    where
      out : (r : Resource) → list_any (λ b. same_key b r) (before ++ x ∷ []) ≡ false → same_key x r ≡ false
      out r none = (or_false (same_key x r) false (parts before x r none).1).0

      by : (found_name kind name xs ≡ Some one → filter (same_key one) xs ≡ one ∷ []) → (b : Bool)
          → (if b then Some x else found_name kind name xs) ≡ Some one → filter (same_key one) (x ∷ xs) ≡ one ∷ []
      by later true is =
          let same : x ≡ one = cc in
          subst (λ r. filter (same_key r) (x ∷ xs) ≡ r ∷ []) same
          (ap (λ (b : Bool). if b then x ∷ filter (same_key x) xs else filter (same_key x) xs) (own_key x)
          ∙ ap (λ (l : List Resource). x ∷ l) (apart x (before ++ x ∷ []) xs out differ.1))
      by later false is =
          ap (λ (b : Bool). if b then x ∷ filter (same_key one) xs else filter (same_key one) xs)
          (flipped one x ∙ other x kind name one (before ++ x ∷ []) xs out differ.1 is)
          ∙ later is

  pub first_alone : (list : List Resource) → KeysDiffer [] list → chosen kind (Name name) list ≡ as_list (found_name kind name list)
  first_alone list differ = by (found_name kind name list) refl
    where
      by : (o : Option Resource) → found_name kind name list ≡ o → filter (is_that o) list ≡ as_list o
      by None is = none_that list
      by (Some one) is = alone [] list differ one is
