-- The groups of the code against those of the definitions.
use Rattle.std.proofs.Common.{◌≡◌, ℕ, ◌+◌, ◌*◌, ◌^◌, ◌<◌, ◌==◌, Bool, true, false, cond, filter, List, [], ◌∷◌, ◌++◌, length, refl, sym, ap, ◌∙◌, subst}
use Rattle.std.proofs.lemmas.List.{length-map, map-append}
use Rattle.std.specs.List.{flat_map, AllByRecursion}
use Rattle.rz_core.proofs.Lists.{all_append}
use Rattle.rz_core.specs.Lists.{with_front}
use Rattle.rz_core.specs.declared.resource.Resource.{Resource}
use Rattle.rz_fork.specs.declared.group.Group.{Group}
use Rattle.rz_fork.specs.Groups.{members_of, group_entry, group_entries, AreGroups}
use Rattle.rz_fork.specs.Image.{kinds_of, group_of, grouped, type_entry, type_entries, entry_of, limit_of, first_limit, image, image_with, tail_with, lists_with, name_list}
use Rattle.rz_fork.proofs.Grouping.{codes, IsGroup}

members_are : (list : List Resource) (gs : List Group) → AllByRecursion (IsGroup list) gs → flat_map members_of gs ≡ flat_map (group_of list) (codes gs)
members_are list [] all = refl
members_are list (g ∷ gs) all = λ i. all.0 i ++ members_are list gs all.1 i

entries_from : (list : List Resource) (kinds : ℕ) (before gs : List Group) → AllByRecursion (IsGroup list) before → AllByRecursion (IsGroup list) gs
    → with_front (group_entry kinds) before gs ≡ with_front (type_entry list kinds) (codes before) (codes gs)
entries_from list kinds before [] done all = refl
entries_from list kinds before (g ∷ gs) done all =
    let one : group_entry kinds before g ≡ type_entry list kinds (codes before) g.code =
    λ i. entry_of g.code (length (all.0 i)) (2 + 8 * kinds + 12 * length (members_are list before done i)) in
    let later = entries_from list kinds (before ++ g ∷ []) gs (all_append (IsGroup list) before (g ∷ []) done (all.0, tt)) all.1 in
    (λ i. one i ++ later i)
    ∙ ap (λ (l : List ℕ). type_entry list kinds (codes before) g.code ++ with_front (type_entry list kinds) l (codes gs)) (map-append (λ x. x.code) before (g ∷ []))

module _ (list : List Resource) (gs : List Group) (are : AreGroups list gs) where
  pub order_is : flat_map members_of gs ≡ grouped list
  order_is = members_are list gs are.members ∙ ap (flat_map (group_of list)) are.kinds

  pub count_is : length gs ≡ length (kinds_of list)
  count_is = sym (length-map gs (λ g. g.code)) ∙ ap length are.kinds

  pub entries_are : group_entries gs ≡ type_entries list
  entries_are =
      entries_from list (length gs) [] gs tt are.members
      ∙ (λ i. with_front (type_entry list (count_is i)) [] (are.kinds i))

  -- the fork made of the groups is that of the list
  pub image_is : (attributes : ℕ) (reserved : List ℕ) (rs : List Resource) → rs ≡ grouped list
      → image_with rs reserved (tail_with attributes (lists_with (length gs) (group_entries gs) rs) (name_list rs)) ≡ image list attributes reserved
  image_is attributes reserved rs is =
      λ i. image_with (is i) reserved (tail_with attributes (lists_with (count_is i) (entries_are i) (is i)) (name_list (is i)))

-- the fork made of these groups, in an order that is theirs
abbrev pub image_by : ℕ → List ℕ → List Resource → List Group → List ℕ
image_by attributes reserved rs gs =
    image_with rs reserved (tail_with attributes (lists_with (length gs) (group_entries gs) rs) (name_list rs))

codes_in_range : (gs : List Group) → AllByRecursion (λ g. g.code < 2 ^ 32) gs → AllByRecursion (λ k. k < 2 ^ 32) (codes gs)
codes_in_range [] fit = tt
codes_in_range (g ∷ gs) fit = (fit.0, codes_in_range gs fit.1)

-- the code's groups and order, read from a list that is this one
module _ (list given : List Resource) (gs : List Group) (same : given ≡ list) (found : AreGroups given gs) where
  are : AreGroups list gs
  are = subst (λ l. AreGroups l gs) same found

  pub order_of : (seen : List Group) (rs : List Resource) → seen ≡ gs → rs ≡ flat_map members_of seen → rs ≡ grouped list
  order_of seen rs see is = is ∙ ap (flat_map members_of) see ∙ order_is list gs are

  pub limit_is : (count : ℕ) (rs : List Resource) → count ≡ length gs → rs ≡ grouped list → limit_of count rs ≡ first_limit list
  limit_is count rs counted is = λ i. limit_of ((counted ∙ count_is list gs are) i) (is i)

  pub whole_is : (attributes : ℕ) (reserved : List ℕ) (seen : List Group) (rs : List Resource) → seen ≡ gs → rs ≡ grouped list
      → image_by attributes reserved rs seen ≡ image list attributes reserved
  whole_is attributes reserved seen rs see is =
      ap (image_by attributes reserved rs) see ∙ image_is list gs are attributes reserved rs is

  pub codes_fit : (seen : List Group) → seen ≡ gs → AllByRecursion (λ g. g.code < 2 ^ 32) seen → AllByRecursion (λ k. k < 2 ^ 32) (kinds_of list)
  codes_fit seen see fit = subst (AllByRecursion (λ k. k < 2 ^ 32)) (ap codes see ∙ are.kinds) (codes_in_range seen fit)

all_filter : {X : Type 0} (P : X → Type 0) (p : X → Bool) (xs : List X) → AllByRecursion P xs → AllByRecursion P (filter p xs)
all_filter P p [] all = tt
all_filter P p (x ∷ xs) all = elim (p x) as (λ b. AllByRecursion P (cond b (x ∷ filter p xs) (filter p xs))) [
  | true ↦ (all.0, all_filter P p xs all.1)
  | false ↦ all_filter P p xs all.1
]

all_groups : (P : Resource → Type 0) (list : List Resource) (kinds : List ℕ) → AllByRecursion P list → AllByRecursion P (flat_map (group_of list) kinds)
all_groups P list [] all = tt
all_groups P list (k ∷ kinds) all =
    all_append P (group_of list k) (flat_map (group_of list) kinds) (all_filter P (λ r. r.kind.code == k) list all) (all_groups P list kinds all)

-- what holds of each resource holds of each of the resources by type
pub all_grouped : (P : Resource → Type 0) (list : List Resource) → AllByRecursion P list → AllByRecursion P (grouped list)
all_grouped P list all = all_groups P list (kinds_of list) all
