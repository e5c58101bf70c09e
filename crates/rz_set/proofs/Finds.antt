-- What is found: in a map from keys, and after a put.
use Rattle.std.proofs.Common.{◌≡◌, ℕ, ℤ, ◌==◌, ◌&&◌, ◌||◌, Bool, true, false, not, if◌then◌else◌, List, [], ◌∷◌, filter, Option, Some, None, refl, sym, ap, subst, ◌∙◌}
use Rattle.std.proofs.lemmas.Bool.{eqb-true}
use Rattle.std.specs.Int.{cast_unsigned, w16}
use Rattle.std.specs.List.{list_any}
use Rattle.std.specs.Map.{lookup}
use Rattle.rz_set.specs.Choice.{is_that}
use Rattle.rz_set.proofs.Choices.{own_key}
use Rattle.rz_core.proofs.Tests.{both}
use Rattle.rz_core.specs.Resources.{id_bits, same_key, put}
use Rattle.rz_core.specs.declared.resource.OsType.{OsType}
use Rattle.rz_core.specs.declared.resource.Resource.{Resource}
use Rattle.rz_set.specs.ResSet.{found, has_key, key_of, keyed, values_of, AreKeyed}
use Rattle.rz_set.proofs.Puts.{key_eq, same_code, same_id}

module _ (kind : OsType) (id : ℤ) where
  found_keyed : (list : List Resource) → lookup (key_eq (key_of kind id)) (keyed list) ≡ found kind id list
  found_keyed [] = refl
  found_keyed (x ∷ xs) = ap (λ (o : Option Resource). if has_key kind id x then Some x else o) (found_keyed xs)

  -- what the map has under a key is what is found in the list
  pub found_in_map : (entries : List ((ℕ × ℕ) × Resource)) → AreKeyed entries
      → lookup (key_eq (key_of kind id)) entries ≡ found kind id (values_of entries)
  found_in_map entries is =
      ap (λ (es : List ((ℕ × ℕ) × Resource)). lookup (key_eq (key_of kind id)) es) is.keyed ∙ found_keyed (values_of entries)

-- The laws.

pub found_some : (kind : OsType) (id : ℤ) (list : List Resource) (r : Resource) → found kind id list ≡ Some r → has_key kind id r ≡ true
found_some kind id [] r is = cc
found_some kind id (x ∷ xs) r is = by (found_some kind id xs r) (has_key kind id x) refl is
  where
    by : (found kind id xs ≡ Some r → has_key kind id r ≡ true) → (b : Bool) → has_key kind id x ≡ b
        → (if b then Some x else found kind id xs) ≡ Some r → has_key kind id r ≡ true
    by later true has one = let same : x ≡ r = cc in subst (λ y. has_key kind id y ≡ true) same has
    by later false has one = later one

-- what is found by an id is what is chosen by it
pub id_chooses : (kind : OsType) (id : ℤ) (list : List Resource) (r : Resource) → found kind id list ≡ Some r → is_that (Some r) ≡ has_key kind id
id_chooses kind id list r is =
    let has = both (kind.code == r.kind.code) (cast_unsigned w16 id == id_bits r) (found_some kind id list r is) in
    λ i x. (sym (eqb-true kind.code r.kind.code has.0) i == x.kind.code) && (sym (eqb-true (cast_unsigned w16 id) (id_bits r) has.1) i == id_bits x)

pub found_none : (kind : OsType) (id : ℤ) (list : List Resource) → found kind id list ≡ None → list_any (has_key kind id) list ≡ false
found_none kind id [] is = refl
found_none kind id (x ∷ xs) is = by (found_none kind id xs) (has_key kind id x) refl is
  where
    by : (found kind id xs ≡ None → list_any (has_key kind id) xs ≡ false) → (b : Bool) → has_key kind id x ≡ b
        → (if b then Some x else found kind id xs) ≡ None → (has_key kind id x || list_any (has_key kind id) xs) ≡ false
    by later true has one = cc
    by later false has one = λ i. has i || later one i

-- two resources of one key have the same types and ids
alike : (kind : OsType) (id : ℤ) (r x : Resource) → same_key r x ≡ true → has_key kind id x ≡ has_key kind id r
alike kind id r x is = λ i. (kind.code == sym (same_code r x is) i) && (cast_unsigned w16 id == sym (same_id r x is) i)

pub put_found : (list : List Resource) (r : Resource) → found r.kind r.id (put list r) ≡ Some r
put_found [] r = ap (λ (b : Bool). if b then Some r else None) (own_key r)
put_found (x ∷ xs) r = by (put_found xs r) (same_key r x) refl
  where
    by : found r.kind r.id (put xs r) ≡ Some r → (b : Bool) → same_key r x ≡ b → found r.kind r.id (if b then r ∷ xs else x ∷ put xs r) ≡ Some r
    by later true is = ap (λ (b : Bool). if b then Some r else found r.kind r.id xs) (own_key r)
    by later false is = ap (λ (b : Bool). if b then Some x else found r.kind r.id (put xs r)) is ∙ later

pub others_found : (list : List Resource) (r : Resource) (kind : OsType) (id : ℤ) → has_key kind id r ≡ false → found kind id (put list r) ≡ found kind id list
others_found [] r kind id other = ap (λ (b : Bool). if b then Some r else None) other
others_found (x ∷ xs) r kind id other = by (others_found xs r kind id other) (same_key r x) refl
  where
    by : found kind id (put xs r) ≡ found kind id xs → (b : Bool) → same_key r x ≡ b
        → found kind id (if b then r ∷ xs else x ∷ put xs r) ≡ found kind id (x ∷ xs)
    by later true is =
        ap (λ (b : Bool). if b then Some r else found kind id xs) other
        ∙ ap (λ (b : Bool). if b then Some x else found kind id xs) (sym (alike kind id r x is ∙ other))
    by later false is = ap (λ (o : Option Resource). if has_key kind id x then Some x else o) later

pub others_stay : (list : List Resource) (r : Resource) → filter (λ x. not (same_key r x)) (put list r) ≡ filter (λ x. not (same_key r x)) list
others_stay [] r = ap (λ (b : Bool). if not b then r ∷ [] else []) (own_key r)
others_stay (x ∷ xs) r = by (others_stay xs r) (same_key r x) refl
  where
    by : filter (λ x. not (same_key r x)) (put xs r) ≡ filter (λ x. not (same_key r x)) xs → (b : Bool) → same_key r x ≡ b
        → filter (λ x. not (same_key r x)) (if b then r ∷ xs else x ∷ put xs r) ≡ filter (λ x. not (same_key r x)) (x ∷ xs)
    by later true is =
        ap (λ (b : Bool). if not b then r ∷ filter (λ x. not (same_key r x)) xs else filter (λ x. not (same_key r x)) xs) (own_key r)
        ∙ ap (λ (b : Bool). if not b then x ∷ filter (λ x. not (same_key r x)) xs else filter (λ x. not (same_key r x)) xs) (sym is)
    by later false is = ap (λ (l : List Resource). if not (same_key r x) then x ∷ l else l) later
