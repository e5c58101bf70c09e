-- The fork of a list is that of the list grouped first, and of the list as which it is admitted.
use Rattle.std.proofs.Common.{◌≡◌, ℕ, ◌+◌, ◌*◌, ◌^◌, ◌<◌, ◌≤◌, ◌==◌, ◌||◌, cond, if◌then◌else◌, Bool, true, false, List, [], ◌∷◌, ◌++◌, length, Option, Some, None, Ok, refl, sym, ap, subst, ◌∙◌, append_assoc}
use Rattle.std.proofs.lemmas.Bool.{eq-eqb, eqb-true}
use Rattle.std.proofs.lemmas.List.Folds.{list_any-append}
use Rattle.std.specs.List.{flat_map, list_any, AllByRecursion}
use Rattle.rz_core.proofs.Lists.{all_append}
use Rattle.rz_core.proofs.Tests.{by_test, true_false}
use Rattle.rz_core.specs.Lists.{unless_fault, with_front}
use Rattle.rz_core.specs.Resources.{KeysDiffer}
use Rattle.rz_core.specs.declared.resource.Resource.{Resource}
use Rattle.rz_fork.specs.declared.fault.LimitFault.{LimitFault}
use Rattle.rz_fork.proofs.Grouping.{has_kind}
use Rattle.rz_fork.proofs.Law.{image_admitted, IsReadable}
use Rattle.rz_fork.proofs.Regroup.{all_grouped}
use Rattle.rz_fork.proofs.Resources.{HasKind}
use Rattle.rz_fork.proofs.Types.{kinds_differ, KindsDiffer}
use Rattle.rz_fork.proofs.Written.{HasShortId}
use Rattle.rz_fork.specs.Admit.{admitted}
use Rattle.rz_fork.specs.Contents.{FitsFork, Fork}
use Rattle.rz_fork.specs.Image.{entry_of, first_limit, fork_of, group_of, grouped, image, image_with, kinds_of, limit_of, lists_with, name_list, new_kind, tail_with, type_entries, type_entry}
use Rattle.rz_laws.proofs.Blocks.{blocks_grouped, first_code, groups_are, kinds_are, Apart}

-- the resources of a type have it
group_codes : (list : List Resource) (k : ℕ) → AllByRecursion (HasKind k) (group_of list k)
group_codes [] k = tt
group_codes (r ∷ rs) k =
    by_test _ (r.kind.code == k)
    (λ is. subst (λ (b : Bool). AllByRecursion (HasKind k) (cond b (r ∷ group_of rs k) (group_of rs k))) (sym is) (eqb-true r.kind.code k is, group_codes rs k))
    (λ is. subst (λ (b : Bool). AllByRecursion (HasKind k) (cond b (r ∷ group_of rs k) (group_of rs k))) (sym is) (group_codes rs k))

apart_of : (before ks : List ℕ) → KindsDiffer before ks → Apart (λ (k : ℕ). k) before ks
apart_of before [] differ = tt
apart_of before (k ∷ ks) differ = (differ.0, apart_of (before ++ k ∷ []) ks differ.1)

-- a type that one of the resources has is that of a group
some_first : (k : ℕ) (rs : List Resource) → list_any (has_kind k) rs ≡ true → first_code (group_of rs k) k ≡ k ∷ []
some_first k [] some = absurd (true_false (sym some))
some_first k (r ∷ rs) some =
    by_test _ (has_kind k r)
    (λ is. ap (λ (b : Bool). first_code (cond b (r ∷ group_of rs k) (group_of rs k)) k) is)
    (λ other.
    ap (λ (b : Bool). first_code (cond b (r ∷ group_of rs k) (group_of rs k)) k) other
    ∙ some_first k rs (ap (λ (b : Bool). b || list_any (has_kind k) rs) (sym other) ∙ some))

or_true : (a b : Bool) → (a || (true || b)) ≡ true
or_true true b = refl
or_true false b = refl

-- what holds of the type of each resource holds of each type
each_kind : (P : ℕ → Type 0) (front rs : List Resource) → AllByRecursion (λ r. P r.kind.code) rs → AllByRecursion P (with_front new_kind front rs)
each_kind P front [] all = tt
each_kind P front (r ∷ rs) all =
    all_append P (new_kind front r) (with_front new_kind (front ++ r ∷ []) rs)
    (by_test (AllByRecursion P (new_kind front r)) (list_any (λ b. b.kind.code == r.kind.code) front)
    (λ is. subst (λ (b : Bool). AllByRecursion P (if b then [] else r.kind.code ∷ [])) (sym is) tt)
    (λ is. subst (λ (b : Bool). AllByRecursion P (if b then [] else r.kind.code ∷ [])) (sym is) (all.0, tt)))
    (each_kind P (front ++ r ∷ []) rs all.1)

-- each resource is one of those with its type
each_there : (list front rs : List Resource) → front ++ rs ≡ list → AllByRecursion (λ r. list_any (has_kind r.kind.code) list ≡ true) rs
each_there list front [] is = tt
each_there list front (r ∷ rs) is = (
  ap (list_any (has_kind r.kind.code)) (sym is) ∙ list_any-append (has_kind r.kind.code) front (r ∷ rs)
      ∙ ap (λ (b : Bool). list_any (has_kind r.kind.code) front || (b || list_any (has_kind r.kind.code) rs)) (eq-eqb r.kind.code r.kind.code refl)
      ∙ or_true (list_any (has_kind r.kind.code) front) (list_any (has_kind r.kind.code) rs),
  each_there list (front ++ r ∷ []) rs (append_assoc front (r ∷ []) rs ∙ is),
)

all_kept : (list : List Resource) (ks : List ℕ) → AllByRecursion (λ k. list_any (has_kind k) list ≡ true) ks → flat_map (λ k. first_code (group_of list k) k) ks ≡ ks
all_kept list [] some = refl
all_kept list (k ∷ ks) some = λ i. some_first k list some.0 i ++ all_kept list ks some.1 i

-- the entries of types are those of another list with the same groups
module _ (one other : List Resource) (kinds : ℕ) where
  abbrev Same : ℕ → Type 0
  Same k = group_of one k ≡ group_of other k

  groups_same : (ks : List ℕ) → AllByRecursion Same ks → flat_map (group_of one) ks ≡ flat_map (group_of other) ks
  groups_same [] all = refl
  groups_same (k ∷ ks) all = λ i. all.0 i ++ groups_same ks all.1 i

  entries_same : (before ks : List ℕ) → AllByRecursion Same before → AllByRecursion Same ks → with_front (type_entry one kinds) before ks ≡ with_front (type_entry other kinds) before ks
  entries_same before [] done all = refl
  entries_same before (k ∷ ks) done all =
      let here : type_entry one kinds before k ≡ type_entry other kinds before k =
      λ i. entry_of k (length (all.0 i)) (2 + 8 * kinds + 12 * length (groups_same before done i)) in
      let later = entries_same (before ++ k ∷ []) ks (all_append Same before (k ∷ []) done (all.0, tt)) all.1 in
      λ i. here i ++ later i

module _ (list : List Resource) where
  abbrev kinds : List ℕ
  kinds = kinds_of list

  apart : Apart (λ (k : ℕ). k) [] kinds
  apart = apart_of [] kinds (kinds_differ [] list [] (λ x. refl))

  grouped_again : grouped (grouped list) ≡ grouped list
  grouped_again = blocks_grouped (λ (k : ℕ). k) (group_of list) (group_codes list) kinds apart

  kinds_again : kinds_of (grouped list) ≡ kinds
  kinds_again =
      kinds_are (λ (k : ℕ). k) (group_of list) (group_codes list) [] kinds apart
      ∙ all_kept list kinds (each_kind (λ k. list_any (has_kind k) list ≡ true) [] list (each_there list [] list refl))

  entries_again : type_entries (grouped list) ≡ type_entries list
  entries_again =
      (λ i. with_front (type_entry (grouped list) (length (kinds_again i))) [] (kinds_again i))
      ∙ entries_same (grouped list) list (length kinds) [] kinds tt (groups_are (λ (k : ℕ). k) (group_of list) (group_codes list) kinds [] kinds refl apart)

  image_again : (attributes : ℕ) (reserved : List ℕ) → image (grouped list) attributes reserved ≡ image list attributes reserved
  image_again attributes reserved =
      λ i. image_with (grouped_again i) reserved
      (tail_with attributes (lists_with (length (kinds_again i)) (entries_again i) (grouped_again i)) (name_list (grouped_again i)))

  pub fork_again : (attributes : ℕ) (reserved : List ℕ) → fork_of (grouped list) attributes reserved ≡ fork_of list attributes reserved
  fork_again attributes reserved = λ i. unless_fault (limit_of (length (kinds_again i)) (grouped_again i)) (image_again attributes reserved i)

-- a fork within the limits is the image
pub unlimited : (limit : Option LimitFault) (whole bytes : List ℕ) → unless_fault limit whole ≡ Ok bytes → (limit ≡ None) × (whole ≡ bytes)
unlimited None whole bytes is = (refl, cc)
unlimited (Some fault) whole bytes is = cc

all_weaker : (P Q : Resource → Type 0) (rs : List Resource) → ((r : Resource) → P r → Q r) → AllByRecursion P rs → AllByRecursion Q rs
all_weaker P Q [] weaker all = tt
all_weaker P Q (r ∷ rs) weaker all = (weaker r all.0, all_weaker P Q rs weaker all.1)

pub admitted_again : (list : List Resource) (attributes : ℕ) (reserved bytes : List ℕ) → KeysDiffer [] list → AllByRecursion FitsFork list
    → attributes < 2 ^ 16 → length reserved ≤ 240 → fork_of list attributes reserved ≡ Ok bytes
    → (fork : Fork) × (admitted bytes ≡ Ok fork) × (fork.list ≡ grouped list) × (fork_of fork.list attributes reserved ≡ Ok bytes)
admitted_again list attributes reserved bytes keys fit attributes_fit room is =
    let parts = unlimited (first_limit list) (image list attributes reserved) bytes is in
    let readable : IsReadable list attributes reserved = record {
      keys = keys;
      codes = each_kind (λ k. k < 2 ^ 32) [] list (all_weaker FitsFork (λ r. r.kind.code < 2 ^ 32) list (λ r fits. fits.code) fit);
      ids = all_grouped HasShortId list (all_weaker FitsFork HasShortId list (λ r fits. fits.id) fit);
      limits = parts.0;
      attributes_fit = attributes_fit;
      room = room;
    } in
    (_, ap admitted (sym parts.1) ∙ image_admitted list attributes reserved readable, refl, fork_again list attributes reserved ∙ is)
