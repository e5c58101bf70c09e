-- Resources that stand in blocks, each of one type and no two of the same, are grouped.
use Rattle.std.proofs.Common.{◌≡◌, ℕ, ◌==◌, ◌||◌, cond, if◌then◌else◌, Bool, true, false, List, [], ◌∷◌, ◌++◌, refl, sym, ap, ◌∙◌, append_assoc}
use Rattle.std.proofs.lemmas.Bool.{eqb-true, eq-eqb, or_parts}
use Rattle.std.proofs.lemmas.List.{append-nil}
use Rattle.std.proofs.lemmas.List.Concat.{flat_map-append}
use Rattle.std.proofs.lemmas.List.Elements.{filter-append}
use Rattle.std.proofs.lemmas.List.Folds.{list_any-append}
use Rattle.std.specs.List.{flat_map, list_any, AllByRecursion}
use Rattle.rz_core.proofs.Tests.{by_test, true_false}
use Rattle.rz_core.specs.Lists.{with_front}
use Rattle.rz_core.specs.declared.resource.Resource.{Resource}
use Rattle.rz_fork.proofs.Grouping.{has_kind, with_front_append}
use Rattle.rz_fork.proofs.Resources.{HasKind}
use Rattle.rz_fork.specs.Image.{group_of, grouped, new_kind}

-- One type.

-- all are of the type
all_pass : (c : ℕ) (rs : List Resource) → AllByRecursion (HasKind c) rs → group_of rs c ≡ rs
all_pass c [] all = refl
all_pass c (r ∷ rs) all =
    ap (λ (b : Bool). cond b (r ∷ group_of rs c) (group_of rs c)) (eq-eqb r.kind.code c all.0) ∙ ap (λ (l : List Resource). r ∷ l) (all_pass c rs all.1)

-- none is
none_pass : (c : ℕ) (rs : List Resource) → list_any (has_kind c) rs ≡ false → group_of rs c ≡ []
none_pass c [] none = refl
none_pass c (r ∷ rs) none =
    let parts = or_parts (has_kind c r) (list_any (has_kind c) rs) none in
    ap (λ (b : Bool). cond b (r ∷ group_of rs c) (group_of rs c)) parts.0 ∙ none_pass c rs parts.1

-- resources of another type are not of this one
of_another : (c k : ℕ) (rs : List Resource) → AllByRecursion (HasKind k) rs → (k == c) ≡ false → list_any (has_kind c) rs ≡ false
of_another c k [] all other = refl
of_another c k (r ∷ rs) all other = λ i. (ap (λ (x : ℕ). x == c) all.0 ∙ other) i || of_another c k rs all.1 other i

-- after a resource of a type others of it add no type
no_more : (c : ℕ) (front rs : List Resource) → list_any (has_kind c) front ≡ true → AllByRecursion (HasKind c) rs → with_front new_kind front rs ≡ []
no_more c front [] some all = refl
no_more c front (r ∷ rs) some all =
    let here : list_any (has_kind r.kind.code) front ≡ true = ap (λ (k : ℕ). list_any (has_kind k) front) all.0 ∙ some in
    let later : list_any (has_kind c) (front ++ r ∷ []) ≡ true = list_any-append (has_kind c) front (r ∷ []) ∙ ap (λ (b : Bool). b || (has_kind c r || false)) some in
    ap (λ (b : Bool). (if b then [] else r.kind.code ∷ []) ++ with_front new_kind (front ++ r ∷ []) rs) here ∙ no_more c (front ++ r ∷ []) rs later all.1

-- the type of a block, if it has a resource
abbrev pub first_code : List Resource → ℕ → List ℕ
first_code [] c = []
first_code (r ∷ rs) c = c ∷ []

block_kinds : (c : ℕ) (front rs : List Resource) → list_any (has_kind c) front ≡ false → AllByRecursion (HasKind c) rs → with_front new_kind front rs ≡ first_code rs c
block_kinds c front [] none all = refl
block_kinds c front (r ∷ rs) none all =
    let fresh : list_any (has_kind r.kind.code) front ≡ false = ap (λ (k : ℕ). list_any (has_kind k) front) all.0 ∙ none in
    let there : list_any (has_kind c) (front ++ r ∷ []) ≡ true =
    list_any-append (has_kind c) front (r ∷ []) ∙ (λ i. none i || (eq-eqb r.kind.code c all.0 i || false)) in
    ap (λ (b : Bool). (if b then [] else r.kind.code ∷ []) ++ with_front new_kind (front ++ r ∷ []) rs) fresh
    ∙ (λ i. all.0 i ∷ no_more c (front ++ r ∷ []) rs there all.1 i)

gathered_one : (list : List Resource) (c : ℕ) (rs : List Resource) → group_of list c ≡ rs → flat_map (group_of list) (first_code rs c) ≡ rs
gathered_one list c [] is = refl
gathered_one list c (r ∷ rs) is = append-nil (group_of list c) ∙ is

-- Blocks.

-- each type differs from those before
abbrev pub Apart : {T : Type 0} → (T → ℕ) → List T → List T → Type 0
Apart code seen [] = Unit {0}
Apart code seen (t ∷ ts) = (list_any (λ b. code b == code t) seen ≡ false) × Apart code (seen ++ t ∷ []) ts

-- types that come later differ from one before
later_differ : {T : Type 0} (code : T → ℕ) (c : ℕ) (seen ts : List T) → list_any (λ b. code b == c) seen ≡ true → Apart code seen ts → list_any (λ b. code b == c) ts ≡ false
later_differ code c seen [] some apart = refl
later_differ code c seen (t ∷ ts) some apart =
    let differs : (code t == c) ≡ false =
    by_test _ (code t == c)
    (λ is. absurd (true_false (sym some ∙ ap (λ (k : ℕ). list_any (λ b. code b == k) seen) (sym (eqb-true (code t) c is)) ∙ apart.0)))
    (λ other. other) in
    let more : list_any (λ b. code b == c) (seen ++ t ∷ []) ≡ true =
    list_any-append (λ b. code b == c) seen (t ∷ []) ∙ ap (λ (b : Bool). b || ((code t == c) || false)) some in
    λ i. differs i || later_differ code c (seen ++ t ∷ []) ts more apart.1 i

module _ {T : Type 0} (code : T → ℕ) (members : T → List Resource) (own : (t : T) → AllByRecursion (HasKind (code t)) (members t)) where
  abbrev blocks : List T → List Resource
  blocks ts = flat_map members ts

  none_in : (c : ℕ) (ts : List T) → list_any (λ b. code b == c) ts ≡ false → list_any (has_kind c) (blocks ts) ≡ false
  none_in c [] none = refl
  none_in c (t ∷ ts) none =
      let parts = or_parts (code t == c) (list_any (λ b. code b == c) ts) none in
      list_any-append (has_kind c) (members t) (blocks ts) ∙ (λ i. of_another c (code t) (members t) (own t) parts.0 i || none_in c ts parts.1 i)

  one_more : (seen : List T) (t : T) → blocks (seen ++ t ∷ []) ≡ blocks seen ++ members t
  one_more seen t = flat_map-append members seen (t ∷ []) ∙ ap (λ (l : List Resource). blocks seen ++ l) (append-nil (members t))

  -- a block has all that there is of its type
  group_is : (seen : List T) (t : T) (ts : List T) → Apart code seen (t ∷ ts) → group_of (blocks seen ++ (members t ++ blocks ts)) (code t) ≡ members t
  group_is seen t ts apart =
      let c = code t in
      let there : list_any (λ b. code b == c) (seen ++ t ∷ []) ≡ true =
      list_any-append (λ b. code b == c) seen (t ∷ []) ∙ (λ i. apart.0 i || (eq-eqb c c refl i || false)) in
      let later = none_in c ts (later_differ code c (seen ++ t ∷ []) ts there apart.1) in
      filter-append (has_kind c) (blocks seen) (members t ++ blocks ts)
      ∙ (λ i. none_pass c (blocks seen) (none_in c seen apart.0) i ++ filter-append (has_kind c) (members t) (blocks ts) i)
      ∙ (λ i. all_pass c (members t) (own t) i ++ none_pass c (blocks ts) later i)
      ∙ append-nil (members t)

  pub groups_are : (all seen ts : List T) → blocks seen ++ blocks ts ≡ blocks all → Apart code seen ts → AllByRecursion (λ t. group_of (blocks all) (code t) ≡ members t) ts
  groups_are all seen [] is apart = tt
  groups_are all seen (t ∷ ts) is apart = (
    ap (λ (l : List Resource). group_of l (code t)) (sym is) ∙ group_is seen t ts apart,
    groups_are all (seen ++ t ∷ []) ts
        (ap (λ (l : List Resource). l ++ blocks ts) (one_more seen t) ∙ append_assoc (blocks seen) (members t) (blocks ts) ∙ is) apart.1,
  )

  abbrev pub kept : T → List ℕ
  kept t = first_code (members t) (code t)

  pub kinds_are : (seen ts : List T) → Apart code seen ts → with_front new_kind (blocks seen) (blocks ts) ≡ flat_map kept ts
  kinds_are seen [] apart = refl
  kinds_are seen (t ∷ ts) apart =
      let here = block_kinds (code t) (blocks seen) (members t) (none_in (code t) seen apart.0) (own t) in
      let later = ap (λ (l : List Resource). with_front new_kind l (blocks ts)) (sym (one_more seen t)) ∙ kinds_are (seen ++ t ∷ []) ts apart.1 in
      with_front_append new_kind (blocks seen) (members t) (blocks ts) ∙ (λ i. here i ++ later i)

  gathered : (list : List Resource) (ts : List T) → AllByRecursion (λ t. group_of list (code t) ≡ members t) ts → flat_map (group_of list) (flat_map kept ts) ≡ blocks ts
  gathered list [] all = refl
  gathered list (t ∷ ts) all =
      flat_map-append (group_of list) (kept t) (flat_map kept ts)
      ∙ (λ i. gathered_one list (code t) (members t) all.0 i ++ gathered list ts all.1 i)

  pub blocks_grouped : (ts : List T) → Apart code [] ts → grouped (blocks ts) ≡ blocks ts
  blocks_grouped ts apart = ap (flat_map (group_of (blocks ts))) (kinds_are [] ts apart) ∙ gathered (blocks ts) ts (groups_are ts [] ts refl apart)
