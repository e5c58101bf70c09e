-- The resource with a type and an id is alone in a list whose types and ids differ.
use Rattle.std.proofs.Common.{◌≡◌, ℕ, ℤ, ◌==◌, ◌&&◌, Bool, true, false, not, if◌then◌else◌, List, [], ◌∷◌, ◌++◌, filter, flat_map, Option, Some, None, refl, sym, ap, ◌∙◌, append-nil}
use Rattle.std.proofs.lemmas.Bool.{eqb-true}
use Rattle.std.specs.Int.{cast_unsigned, w16}
use Rattle.std.specs.List.{AllByRecursion, list_any}
use Rattle.std.specs.Map.{remove_entry}
use Rattle.rz_core.proofs.Tests.{both}
use Rattle.rz_core.specs.Resources.{id_bits, same_key, KeysDiffer}
use Rattle.rz_core.specs.declared.resource.OsType.{OsType}
use Rattle.rz_core.specs.declared.resource.Resource.{Resource}
use Rattle.rz_set.specs.After.{as_list, forbidden}
use Rattle.rz_set.specs.Change.{with_other}
use Rattle.rz_set.specs.ResSet.{found, has_key, key_of, keyed, values_of, AreKeyed}
use Rattle.rz_set.specs.Wanted.{is_wanted, is_within}
use Rattle.rz_set.specs.declared.pick.Head.{Head}
use Rattle.rz_set.specs.declared.wanted.Ids.TheVariants.{One}
use Rattle.rz_set.specs.declared.wanted.Wanted.{Wanted}
use Rattle.rz_set.proofs.Changes.{or_nothing}
use Rattle.rz_set.proofs.Named.{parts}
use Rattle.rz_set.proofs.Puts.{key_eq}

-- what is wanted by one id
pub one_wanted : (wanted : Wanted) (id : ℤ) → wanted.ids ≡ One id → is_wanted wanted ≡ has_key wanted.kind id
one_wanted wanted id is = ap (is_within wanted.kind) is

module _ (kind : OsType) (id : ℤ) where
  -- a resource of this type and id is of one key with those that have them too
  like : (x y : Resource) → has_key kind id x ≡ true → same_key x y ≡ has_key kind id y
  like x y has =
      let are = both (kind.code == x.kind.code) (cast_unsigned w16 id == id_bits x) has in
      λ i. (sym (eqb-true kind.code x.kind.code are.0) i == y.kind.code) && (sym (eqb-true (cast_unsigned w16 id) (id_bits x) are.1) i == id_bits y)

  -- none of these has this type and id
  abbrev pub AreOthers : List Resource → Type 0
  AreOthers list = AllByRecursion (λ r. has_key kind id r ≡ false) list

  others_after : (x : Resource) → has_key kind id x ≡ true → (before xs : List Resource)
      → ((y : Resource) → list_any (λ b. same_key b y) before ≡ false → same_key x y ≡ false) → KeysDiffer before xs → AreOthers xs
  others_after x has before [] out differ = tt
  others_after x has before (y ∷ ys) out differ =
      (sym (like x y has) ∙ out y differ.0, others_after x has (before ++ y ∷ []) ys (λ z none. out z (parts before y z none).0) differ.1)

  -- those after one that has this type and id
  pub others : (x : Resource) → has_key kind id x ≡ true → (before xs : List Resource) → KeysDiffer (before ++ x ∷ []) xs → AreOthers xs
  others x has before xs differ = others_after x has (before ++ x ∷ []) xs (λ y none. or_nothing (same_key x y) (parts before x y none).1) differ

  none_kept : (xs : List Resource) → AreOthers xs → filter (has_key kind id) xs ≡ []
  none_kept [] are = refl
  none_kept (x ∷ xs) are = ap (λ (b : Bool). if b then x ∷ filter (has_key kind id) xs else filter (has_key kind id) xs) are.0 ∙ none_kept xs are.1

  alone : (before list : List Resource) → KeysDiffer before list → filter (has_key kind id) list ≡ as_list (found kind id list)
  alone before [] differ = refl
  alone before (x ∷ xs) differ = by (alone (before ++ x ∷ []) xs differ.1) (has_key kind id x) refl
    where
      by : filter (has_key kind id) xs ≡ as_list (found kind id xs) → (b : Bool) → has_key kind id x ≡ b
          → (if b then x ∷ filter (has_key kind id) xs else filter (has_key kind id) xs) ≡ as_list (if b then Some x else found kind id xs)
      by later true has = ap (λ (l : List Resource). x ∷ l) (none_kept xs (others x has before xs differ.1))
      by later false has = later

  -- the one is all that is kept by its type and id
  pub one_kept : (list : List Resource) → KeysDiffer [] list → filter (has_key kind id) list ≡ as_list (found kind id list)
  one_kept list differ = alone [] list differ

  -- Taking it out.

  all_left : (xs : List Resource) → AreOthers xs → filter (λ e. not (has_key kind id e.1)) (keyed xs) ≡ keyed xs
  all_left [] are = refl
  all_left (x ∷ xs) are =
      let rest = filter (λ e. not (has_key kind id e.1)) (keyed xs) in
      ap (λ (b : Bool). if not b then (key_of x.kind x.id, x) ∷ rest else rest) are.0
      ∙ ap (λ (l : List ((ℕ × ℕ) × Resource)). (key_of x.kind x.id, x) ∷ l) (all_left xs are.1)

  out_of_keyed : (before list : List Resource) → KeysDiffer before list
      → remove_entry (key_eq (key_of kind id)) (keyed list) ≡ filter (λ e. not (has_key kind id e.1)) (keyed list)
  out_of_keyed before [] differ = refl
  out_of_keyed before (x ∷ xs) differ = by (out_of_keyed (before ++ x ∷ []) xs differ.1) (has_key kind id x) refl
    where
      by : remove_entry (key_eq (key_of kind id)) (keyed xs) ≡ filter (λ e. not (has_key kind id e.1)) (keyed xs) → (b : Bool) → has_key kind id x ≡ b
          → (if b then keyed xs else (key_of x.kind x.id, x) ∷ remove_entry (key_eq (key_of kind id)) (keyed xs))
          ≡ (if not b then (key_of x.kind x.id, x) ∷ filter (λ e. not (has_key kind id e.1)) (keyed xs) else filter (λ e. not (has_key kind id e.1)) (keyed xs))
      by later true has = sym (all_left xs (others x has before xs differ.1))
      by later false has = ap (λ (l : List ((ℕ × ℕ) × Resource)). (key_of x.kind x.id, x) ∷ l) later

  -- without its key the map has the entries of the others
  pub out_of_map : (entries : List ((ℕ × ℕ) × Resource)) → AreKeyed entries
      → remove_entry (key_eq (key_of kind id)) entries ≡ filter (λ e. not (has_key kind id e.1)) entries
  out_of_map entries is =
      ap (λ (es : List ((ℕ × ℕ) × Resource)). remove_entry (key_eq (key_of kind id)) es) is.keyed
      ∙ out_of_keyed [] (values_of entries) is.keys
      ∙ ap (λ (es : List ((ℕ × ℕ) × Resource)). filter (λ e. not (has_key kind id e.1)) es) (sym is.keyed)

  -- Its change.

  nothing_forbidden : (over : Bool) → forbidden over [] ≡ None
  nothing_forbidden true = refl
  nothing_forbidden false = refl

  module _ (head : Head) (over : Bool) (list : List Resource) (differ : KeysDiffer [] list) where
    forbidden_one : (o : Option Resource) → found kind id list ≡ o
        → forbidden over (flat_map (with_other head list) (filter (has_key kind id) list)) ≡ forbidden over (flat_map (with_other head list) (as_list o))
    forbidden_one o is = ap (λ (l : List Resource). forbidden over (flat_map (with_other head list) l)) (one_kept list differ ∙ ap as_list is)

    pub forbidden_some : (one : Resource) → found kind id list ≡ Some one
        → forbidden over (with_other head list one) ≡ forbidden over (flat_map (with_other head list) (filter (has_key kind id) list))
    forbidden_some one is = ap (forbidden over) (sym (append-nil (with_other head list one))) ∙ sym (forbidden_one (Some one) is)

    pub forbidden_none : found kind id list ≡ None → None ≡ forbidden over (flat_map (with_other head list) (filter (has_key kind id) list))
    forbidden_none is = sym (forbidden_one None is ∙ nothing_forbidden over)
