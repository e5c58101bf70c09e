-- Resources whose bytes alone change stay in their groups, with their keys.
use Rattle.std.proofs.Common.{◌≡◌, ℕ, ◌==◌, ◌&&◌, ◌||◌, if◌then◌else◌, cond, Bool, true, false, List, [], ◌∷◌, ◌++◌, map, refl, sym, ap, ◌∙◌, append_assoc}
use Rattle.std.proofs.lemmas.Bool.{eq-eqb}
use Rattle.std.proofs.lemmas.List.{map-append}
use Rattle.std.specs.List.{flat_map, list_any}
use Rattle.rz_catalog.proofs.Lookups.{any_map}
use Rattle.rz_catalog.proofs.Pairs.{AreBy}
use Rattle.rz_catalog.specs.Apply.{with_bytes}
use Rattle.rz_core.proofs.Tests.{or_false}
use Rattle.rz_core.specs.Lists.{with_front}
use Rattle.rz_core.specs.Resources.{id_bits, same_key, KeysDiffer}
use Rattle.rz_core.specs.declared.resource.Resource.{Resource}
use Rattle.rz_fork.specs.Image.{group_of, grouped, kinds_of, new_kind}

-- all but the bytes is the same
abbrev pub Rebyted : Resource → Resource → Type 0
Rebyted r n = n ≡ with_bytes r n.bytes

-- Keys.

key_self : (r : Resource) → same_key r r ≡ true
key_self r = λ i. eq-eqb r.kind.code r.kind.code refl i && eq-eqb (id_bits r) (id_bits r) refl i

same_front : (front before : List Resource) (r n : Resource) → AreBy Rebyted front before → Rebyted r n → list_any (λ b. same_key b n) before ≡ list_any (λ b. same_key b r) front
same_front [] [] r n are is = refl
same_front [] (b ∷ before) r n are is = absurd are
same_front (a ∷ front) [] r n are is = absurd are
same_front (a ∷ front) (b ∷ before) r n are is = λ i. same_key (are.0 i) (is i) || same_front front before r n are.1 is i

by_append : (xs ys : List Resource) (x y : Resource) → AreBy Rebyted xs ys → Rebyted x y → AreBy Rebyted (xs ++ x ∷ []) (ys ++ y ∷ [])
by_append [] [] x y are is = (is, tt)
by_append [] (b ∷ ys) x y are is = absurd are
by_append (a ∷ xs) [] x y are is = absurd are
by_append (a ∷ xs) (b ∷ ys) x y are is = (are.0, by_append xs ys x y are.1 is)

pub keys_stay : (front before list new : List Resource) → AreBy Rebyted front before → AreBy Rebyted list new → KeysDiffer front list → KeysDiffer before new
keys_stay front before [] [] are by differ = tt
keys_stay front before [] (n ∷ new) are by differ = absurd by
keys_stay front before (r ∷ list) [] are by differ = absurd by
keys_stay front before (r ∷ list) (n ∷ new) are by differ = (
  same_front front before r n are by.0 ∙ differ.0,
  keys_stay (front ++ r ∷ []) (before ++ n ∷ []) list new (by_append front before r n are by.0) by.1 differ.1,
)

-- The changed list as a map of the old one, whose keys differ.

-- the bytes of the resource with the key of this one
abbrev bytes_for : List Resource → Resource → List ℕ
bytes_for [] r = []
bytes_for (n ∷ new) r = if same_key n r then n.bytes else bytes_for new r

abbrev changed : List Resource → Resource → Resource
changed new r = with_bytes r (bytes_for new r)

found : (front : List Resource) (n : Resource) (rest : List Resource) (r : Resource) → list_any (λ b. same_key b r) front ≡ false → same_key n r ≡ true
    → bytes_for (front ++ n ∷ rest) r ≡ n.bytes
found [] n rest r none is = ap (λ (b : Bool). if b then n.bytes else bytes_for rest r) is
found (b ∷ front) n rest r none is =
    let each = or_false (same_key b r) (list_any (λ c. same_key c r) front) none in
    ap (λ (c : Bool). if c then b.bytes else bytes_for (front ++ n ∷ rest) r) each.0 ∙ found front n rest r each.1 is

map_is : (whole front list new : List Resource) → AreBy Rebyted list new → KeysDiffer front new → whole ≡ front ++ new → map (changed whole) list ≡ new
map_is whole front [] [] by differ is = refl
map_is whole front [] (n ∷ new) by differ is = absurd by
map_is whole front (r ∷ list) [] by differ is = absurd by
map_is whole front (r ∷ list) (n ∷ new) by differ is =
    let none : list_any (λ b. same_key b r) front ≡ false = sym (ap (λ (z : Resource). list_any (λ b. same_key b z) front) by.0) ∙ differ.0 in
    let own : same_key n r ≡ true = ap (λ (z : Resource). same_key z r) by.0 ∙ key_self r in
    let head : changed whole r ≡ n = ap (with_bytes r) (ap (λ (l : List Resource). bytes_for l r) is ∙ found front n new r none own) ∙ sym by.0 in
    let rest = map_is whole (front ++ n ∷ []) list new by.1 differ.1 (is ∙ sym (append_assoc front (n ∷ []) new)) in
    λ i. head i ∷ rest i

-- Groups.

module _ (bytes : Resource → List ℕ) where
  abbrev put : Resource → Resource
  put r = with_bytes r (bytes r)

  group_put : (list : List Resource) (code : ℕ) → group_of (map put list) code ≡ map put (group_of list code)
  group_put [] code = refl
  group_put (r ∷ list) code = by (r.kind.code == code) (group_put list code)
    where
      by : (b : Bool) → group_of (map put list) code ≡ map put (group_of list code)
          → cond b (put r ∷ group_of (map put list) code) (group_of (map put list) code) ≡ map put (cond b (r ∷ group_of list code) (group_of list code))
      by true others = ap (λ (l : List Resource). put r ∷ l) others
      by false others = others

  kinds_put : (front rs : List Resource) → with_front new_kind (map put front) (map put rs) ≡ with_front new_kind front rs
  kinds_put front [] = refl
  kinds_put front (r ∷ rs) =
      let behind = ap (λ (l : List Resource). with_front new_kind l (map put rs)) (sym (map-append put front (r ∷ []))) ∙ kinds_put (front ++ r ∷ []) rs in
      λ i. (if any_map (λ b. b.kind.code == r.kind.code) put front i then [] else r.kind.code ∷ []) ++ behind i

  groups_put : (list : List Resource) (kinds : List ℕ) → flat_map (group_of (map put list)) kinds ≡ map put (flat_map (group_of list) kinds)
  groups_put list [] = refl
  groups_put list (k ∷ kinds) = (λ i. group_put list k i ++ groups_put list kinds i) ∙ sym (map-append put (group_of list k) (flat_map (group_of list) kinds))

  grouped_put : (list : List Resource) → grouped (map put list) ≡ map put (grouped list)
  grouped_put list = ap (flat_map (group_of (map put list))) (kinds_put [] list) ∙ groups_put list (kinds_of list)

pub stays_grouped : (list new : List Resource) → AreBy Rebyted list new → KeysDiffer [] new → grouped list ≡ list → grouped new ≡ new
stays_grouped list new by differ is =
    let same = map_is new [] list new by differ refl in
    sym (ap grouped same) ∙ grouped_put (bytes_for new) list ∙ ap (map (changed new)) is ∙ same
