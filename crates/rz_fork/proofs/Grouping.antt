-- One resource more, put into its group.
use Rattle.std.proofs.Common.{◌≡◌, ℕ, zero, suc, ◌<◌, ◌==◌, ◌||◌, Bool, true, false, if◌then◌else◌, nat_eq, not, cond, List, [], ◌∷◌, ◌++◌, length, map, set, get_or, slice_get, Some, refl, sym, ap, subst, ◌∙◌, arith, append_assoc}
use Rattle.std.proofs.lemmas.Bool.{eqb-true, eq-eqb}
use Rattle.std.proofs.lemmas.List.{append-nil, map-append, map-set, set-get_or, length-map, get_or-map, get_or_default}
use Rattle.std.proofs.lemmas.List.Elements.{filter-append}
use Rattle.std.proofs.lemmas.List.Folds.{list_any-append}
use Rattle.std.proofs.lemmas.Option.{same_Some, get_or_from_slice_get, slice_get_within}
use Rattle.std.specs.List.{list_any, AllByRecursion, IsDistinct}
use Rattle.indexmap.specs.IndexSet.{insert_key}
use Rattle.rz_core.proofs.Tests.{same_sym}
use Rattle.rz_core.proofs.Lists.{all_append}
use Rattle.rz_core.specs.Lists.{with_front}
use Rattle.rz_core.specs.declared.resource.Resource.{Resource}
use Rattle.rz_fork.specs.declared.group.Group.{Group}
use Rattle.rz_fork.specs.Image.{new_kind, kinds_of, group_of}
use Rattle.rz_fork.specs.Groups.{members_of, AreGroups}

pub with_front_append : {A B : Type 0} (f : List A → A → List B) (front xs ys : List A) → with_front f front (xs ++ ys) ≡ with_front f front xs ++ with_front f (front ++ xs) ys
with_front_append f front [] ys = ap (λ l. with_front f l ys) (sym (append-nil front))
with_front_append {A = A} f front (x ∷ xs) ys =
    ap (λ l. f front x ++ l) (with_front_append f (front ++ x ∷ []) xs ys)
    ∙ ap (λ (l : List A). f front x ++ (with_front f (front ++ x ∷ []) xs ++ with_front f l ys)) (append_assoc front (x ∷ []) xs)
    ∙ sym (append_assoc (f front x) (with_front f (front ++ x ∷ []) xs) (with_front f (front ++ x ∷ xs) ys))

-- the resource has the type
abbrev pub has_kind : ℕ → Resource → Bool
has_kind code r = r.kind.code == code

or_nothing : (b : Bool) → b ≡ (b || false)
or_nothing true = refl
or_nothing false = refl

or_comm : (a b : Bool) → ((a || false) || b) ≡ (b || (a || false))
or_comm true true = refl
or_comm true false = refl
or_comm false true = refl
or_comm false false = refl

-- a resource whose type is there already adds no type
absorbed : (code : ℕ) (front : List Resource) (x : Resource) (p : Bool) → has_kind code x ≡ p → list_any (has_kind x.kind.code) front ≡ true
    → list_any (has_kind code) front ≡ (list_any (has_kind code) front || (p || false))
absorbed code front x false is there = or_nothing (list_any (has_kind code) front)
absorbed code front x true is there =
    let some : list_any (has_kind code) front ≡ true = ap (λ (k : ℕ). list_any (has_kind k) front) (sym (eqb-true x.kind.code code is)) ∙ there in
    some ∙ ap (λ (b : Bool). b || true) (sym some)

new_any_by : (code : ℕ) (front : List Resource) (x : Resource) (b : Bool) → list_any (has_kind x.kind.code) front ≡ b
    → (list_any (nat_eq code) (if b then [] else x.kind.code ∷ []) || list_any (has_kind code) front) ≡ (list_any (has_kind code) front || (has_kind code x || false))
new_any_by code front x true is = absorbed code front x (has_kind code x) refl is
new_any_by code front x false is =
    ap (λ (b : Bool). (b || false) || list_any (has_kind code) front) (same_sym code x.kind.code)
    ∙ or_comm (has_kind code x) (list_any (has_kind code) front)

regroup : (k w f p : Bool) → (k || f) ≡ (f || p) → ((k || w) || f) ≡ (w || (f || p))
regroup true true f p h = refl
regroup true false f p h = h
regroup false true f p h = refl
regroup false false f p h = h

-- a type is among those of the resources where one of the resources has it
kinds_any : (code : ℕ) (front xs : List Resource) → (list_any (nat_eq code) (with_front new_kind front xs) || list_any (has_kind code) front) ≡ list_any (has_kind code) (front ++ xs)
kinds_any code front [] = ap (list_any (has_kind code)) (sym (append-nil front))
kinds_any code front (x ∷ xs) =
    let later = with_front new_kind (front ++ x ∷ []) xs in
    let test : Resource → Bool = has_kind code in
    let one : (list_any (nat_eq code) (new_kind front x) || list_any test front) ≡ (list_any test front || (test x || false)) = new_any_by code front x (list_any (has_kind x.kind.code) front) refl in
    ap (λ (b : Bool). b || list_any test front) (list_any-append (nat_eq code) (new_kind front x) later)
    ∙ regroup (list_any (nat_eq code) (new_kind front x)) (list_any (nat_eq code) later) (list_any test front) (test x || false) one
    ∙ ap (λ (b : Bool). list_any (nat_eq code) later || b) (sym (list_any-append test front (x ∷ [])))
    ∙ kinds_any code (front ++ x ∷ []) xs ∙ ap (list_any test) (append_assoc front (x ∷ []) xs)

pub has_kinds : (code : ℕ) (xs : List Resource) → list_any (nat_eq code) (kinds_of xs) ≡ list_any (has_kind code) xs
has_kinds code xs = or_nothing (list_any (nat_eq code) (kinds_of xs)) ∙ kinds_any code [] xs

insert_by : (ks : List ℕ) (code : ℕ) (b : Bool) → ks ++ ((if b then [] else code ∷ []) ++ []) ≡ (if b then ks else ks ++ code ∷ [])
insert_by ks code true = append-nil ks
insert_by ks code false = refl

-- one resource more, and its type where it is new
pub kinds_more : (xs : List Resource) (r : Resource) → kinds_of (xs ++ r ∷ []) ≡ insert_key nat_eq (kinds_of xs) r.kind.code
kinds_more xs r =
    with_front_append new_kind [] xs (r ∷ [])
    ∙ insert_by (kinds_of xs) r.kind.code (list_any (has_kind r.kind.code) xs)
    ∙ ap (λ (b : Bool). if b then kinds_of xs else kinds_of xs ++ r.kind.code ∷ []) (sym (has_kinds r.kind.code xs))

-- the group is that of its type
abbrev pub IsGroup : List Resource → Group → Type 0
IsGroup list g = members_of g ≡ group_of list g.code

abbrev pub codes : List Group → List ℕ
codes gs = map (λ g. g.code) gs

group_other : (xs : List Resource) (r : Resource) (code : ℕ) → (r.kind.code == code) ≡ false → group_of xs code ≡ group_of (xs ++ r ∷ []) code
group_other xs r code differs =
    sym (append-nil (group_of xs code))
    ∙ ap (λ (b : Bool). group_of xs code ++ cond b (r ∷ []) []) (sym differs)
    ∙ sym (filter-append (has_kind code) xs (r ∷ []))

group_same : (xs : List Resource) (r : Resource) (code : ℕ) → (r.kind.code == code) ≡ true → group_of xs code ++ r ∷ [] ≡ group_of (xs ++ r ∷ []) code
group_same xs r code same =
    ap (λ (b : Bool). group_of xs code ++ cond b (r ∷ []) []) (sym same)
    ∙ sym (filter-append (has_kind code) xs (r ∷ []))

-- groups of other types stay
others : (xs : List Resource) (r : Resource) (gs : List Group) → AllByRecursion (λ y. (r.kind.code == y) ≡ false) (codes gs)
    → AllByRecursion (IsGroup xs) gs → AllByRecursion (IsGroup (xs ++ r ∷ [])) gs
others xs r [] differ all = tt
others xs r (g ∷ gs) differ all = (all.0 ∙ group_other xs r g.code differ.0, others xs r gs differ.1 all.1)

-- an item of a list of which each passes
all_at : (P : ℕ → Type 0) (ys : List ℕ) (i y : ℕ) → AllByRecursion P ys → slice_get ys i ≡ Some y → P y
all_at P [] i y all is = cc
all_at P (x ∷ xs) zero y all is = subst P (same_Some x y is) all.0
all_at P (x ∷ xs) (suc i) y all is = all_at P xs i y all.1 is

-- the resource joins the group of its type
pub joined : (xs : List Resource) (r : Resource) (gs : List Group) (i : ℕ) (g : Group) → IsDistinct nat_eq (codes gs) → slice_get (codes gs) i ≡ Some r.kind.code
    → g.code ≡ r.kind.code → members_of g ≡ members_of (get_or gs i g) ++ r ∷ []
    → AllByRecursion (IsGroup xs) gs → AllByRecursion (IsGroup (xs ++ r ∷ [])) (set gs i g)
unfolding IsDistinct
joined xs r [] i g distinct at code members all = tt
joined xs r (h ∷ gs) zero g distinct at code members all =
    let here : h.code ≡ r.kind.code = same_Some h.code r.kind.code at in
    let differ = subst (λ k. AllByRecursion (λ y. (k == y) ≡ false) (codes gs)) here distinct.0 in (
      members ∙ ap (λ l. l ++ r ∷ []) all.0 ∙ ap (λ k. group_of xs k ++ r ∷ []) (here ∙ sym code) ∙ group_same xs r g.code (eq-eqb r.kind.code g.code (sym code)),
      others xs r gs differ all.1,
    )
joined xs r (h ∷ gs) (suc i) g distinct at code members all =
    let differs : (h.code == r.kind.code) ≡ false = all_at (λ y. (h.code == y) ≡ false) (codes gs) i r.kind.code distinct.0 at in
    (all.0 ∙ group_other xs r h.code (same_sym r.kind.code h.code ∙ differs), joined xs r gs i g distinct.1 at code members all.1)

none_of_by : (x : Resource) (xs : List Resource) (code : ℕ) (b : Bool) → (b || list_any (has_kind code) xs) ≡ false → (list_any (has_kind code) xs ≡ false → group_of xs code ≡ []) → cond b (x ∷ group_of xs code) (group_of xs code) ≡ []
none_of_by x xs code true none rest = cc
none_of_by x xs code false none rest = rest none

-- none of the resources has the type
none_of : (xs : List Resource) (code : ℕ) → list_any (has_kind code) xs ≡ false → group_of xs code ≡ []
none_of [] code none = refl
none_of (x ∷ xs) code none = none_of_by x xs code (has_kind code x) none (none_of xs code)

not_true : (b : Bool) → true ≡ not b → b ≡ false
not_true true is = cc
not_true false is = refl

not_false : (b : Bool) → false ≡ not b → b ≡ true
not_false true is = refl
not_false false is = cc

-- the groups, one of which is that of the resource's type
pub record AreReady (xs : List Resource) (r : Resource) (gs : List Group) : Type 0 where
  pub kinds : codes gs ≡ insert_key nat_eq (kinds_of xs) r.kind.code
  pub members : AllByRecursion (IsGroup xs) gs

module _ (xs : List Resource) (r : Resource) (gs : List Group) (are : AreGroups xs gs) where
  pub ready_new : (g : Group) → true ≡ not (list_any (nat_eq r.kind.code) (kinds_of xs)) → g.code ≡ r.kind.code → members_of g ≡ [] → AreReady xs r (gs ++ g ∷ [])
  ready_new g new code empty =
      let none = not_true (list_any (nat_eq r.kind.code) (kinds_of xs)) new in
      let group : members_of g ≡ group_of xs g.code =
      empty ∙ sym (none_of xs r.kind.code (sym (has_kinds r.kind.code xs) ∙ none)) ∙ ap (group_of xs) (sym code) in
      record {
        kinds =
            map-append (λ x. x.code) gs (g ∷ []) ∙ (λ j. are.kinds j ++ code j ∷ [])
            ∙ ap (λ (b : Bool). if b then kinds_of xs else kinds_of xs ++ r.kind.code ∷ []) (sym none);
        members = all_append (IsGroup xs) gs (g ∷ []) are.members (group, tt);
      }

  pub ready_old : false ≡ not (list_any (nat_eq r.kind.code) (kinds_of xs)) → AreReady xs r gs
  ready_old old =
      let some = not_false (list_any (nat_eq r.kind.code) (kinds_of xs)) old in
      record {
        kinds = are.kinds ∙ ap (λ (b : Bool). if b then kinds_of xs else kinds_of xs ++ r.kind.code ∷ []) (sym some);
        members = are.members;
      }

-- the groups after the resource has joined its own
pub with_joined : (xs : List Resource) (r : Resource) (gs : List Group) (i : ℕ) (h g : Group) → AreReady xs r gs → IsDistinct nat_eq (codes gs)
    → slice_get (codes gs) i ≡ Some r.kind.code → h ≡ get_or gs i h → g.code ≡ h.code → members_of g ≡ members_of h ++ r ∷ []
    → AreGroups (xs ++ r ∷ []) (set gs i g)
with_joined xs r gs i h g ready distinct at is code members =
    let within : i < length gs = omega (arith, slice_get_within (codes gs) i r.kind.code at, length-map gs (λ x. x.code)) in
    let here : get_or (codes gs) i 0 ≡ r.kind.code = get_or_from_slice_get (codes gs) i r.kind.code 0 at in
    let own : g.code ≡ r.kind.code = code ∙ ap (λ x. x.code) is ∙ sym (get_or-map (λ x. x.code) gs i h 0 within) ∙ here in
    let same : members_of g ≡ members_of (get_or gs i g) ++ r ∷ [] =
    members ∙ ap (λ x. members_of x ++ r ∷ []) (is ∙ get_or_default gs i h g within) in
    record {
      kinds =
          map-set (λ x. x.code) gs i g ∙ ap (set (codes gs) i) (own ∙ sym here)
          ∙ set-get_or (codes gs) i 0 ∙ ready.kinds ∙ sym (kinds_more xs r);
      members = joined xs r gs i g distinct at own same ready.members;
    }
