-- Where a pick by id or name chooses something.
use Rattle.std.proofs.Common.{◌≡◌, ℕ, ℤ, ◌==◌, ◌&&◌, ◌||◌, Bool, true, false, not, if◌then◌else◌, List, [], ◌∷◌, Option, Some, None, refl, ap, ◌∙◌}
use Rattle.std.specs.List.{list_any}
use Rattle.std.specs.Option.{is_some}
use Rattle.std.proofs.lemmas.Bool.{eq-eqb, or_right}
use Rattle.rz_core.proofs.Tests.{and_so}
use Rattle.rz_core.specs.Resources.{id_bits, same_key}
use Rattle.rz_core.specs.declared.resource.OsType.{OsType}
use Rattle.rz_core.specs.declared.resource.Resource.{Resource}
use Rattle.rz_set.specs.Choice.{found_name, has_name, is_that, missing}
use Rattle.rz_set.specs.ResSet.{found, has_key}
use Rattle.rz_set.specs.declared.pick.Pick.TheVariants.{Id, Name}
use Rattle.rz_set.specs.declared.pick.SetFault.{SetFault}
use Rattle.rz_set.specs.declared.pick.SetFault.TheVariants.{NoSuchResource}

-- what a pick for one resource misses, where some are chosen or none
abbrev missing_if : OsType → Bool → Option SetFault
missing_if kind some = if true && not some then Some (NoSuchResource kind) else None

none_any : (list : List Resource) → list_any (is_that None) list ≡ false
none_any [] = refl
none_any (x ∷ xs) = none_any xs

pub own_key : (r : Resource) → same_key r r ≡ true
own_key r = and_so (r.kind.code == r.kind.code) (id_bits r == id_bits r) (eq-eqb r.kind.code r.kind.code refl) (eq-eqb (id_bits r) (id_bits r) refl)

module _ (kind : OsType) where
  any_id : (id : ℤ) (list : List Resource) → list_any (has_key kind id) list ≡ is_some (found kind id list)
  any_id id [] = refl
  any_id id (x ∷ xs) = by (any_id id xs) (has_key kind id x)
    where
      by : list_any (has_key kind id) xs ≡ is_some (found kind id xs) → (b : Bool)
          → (b || list_any (has_key kind id) xs) ≡ is_some (if b then Some x else found kind id xs)
      by later true = refl
      by later false = later

  any_name : (name : List ℕ) (list : List Resource) (one : Resource) → found_name kind name list ≡ Some one → list_any (same_key one) list ≡ true
  any_name name [] one is = cc
  any_name name (x ∷ xs) one is = by (any_name name xs one) (has_name kind name x) is
    where
      by : (found_name kind name xs ≡ Some one → list_any (same_key one) xs ≡ true) → (b : Bool)
          → (if b then Some x else found_name kind name xs) ≡ Some one → (same_key one x || list_any (same_key one) xs) ≡ true
      by later true is = let same : x ≡ one = cc in ap (λ r. same_key one r || list_any (same_key one) xs) same ∙ ap (λ (b : Bool). b || list_any (same_key one) xs) (own_key one)
      by later false is = or_right (same_key one x) (list_any (same_key one) xs) (later is)

  pub there_id : (id : ℤ) (list : List Resource) (one : Resource) → found kind id list ≡ Some one → missing kind (Id id) list ≡ None
  there_id id list one is = ap (missing_if kind) (any_id id list ∙ ap is_some is)

  pub missing_id : (id : ℤ) (list : List Resource) → found kind id list ≡ None → missing kind (Id id) list ≡ Some (NoSuchResource kind)
  missing_id id list is = ap (missing_if kind) (any_id id list ∙ ap is_some is)

  pub there_name : (name : List ℕ) (list : List Resource) (one : Resource) → found_name kind name list ≡ Some one → missing kind (Name name) list ≡ None
  there_name name list one is =
      ap (λ o. missing_if kind (list_any (is_that o) list)) is ∙ ap (missing_if kind) (any_name name list one is)

  pub missing_name : (name : List ℕ) (list : List Resource) → found_name kind name list ≡ None → missing kind (Name name) list ≡ Some (NoSuchResource kind)
  missing_name name list is =
      ap (λ o. missing_if kind (list_any (is_that o) list)) is ∙ ap (missing_if kind) (none_any list)
