-- The change of one resource that keeps its type and id.
use Rattle.std.proofs.Common.{◌≡◌, ℕ, ℤ, ◌==◌, ◌&&◌, ◌||◌, Bool, true, false, if◌then◌else◌, List, [], ◌∷◌, ◌++◌, ◌<◌, filter, flat_map, length, map, Option, Some, None, refl, sym, ap, subst, ◌∙◌}
use Rattle.std.proofs.lemmas.Bool.{eqb-true}
use Rattle.std.specs.Int.{cast_unsigned, w16}
use Rattle.std.specs.List.{AllByRecursion, list_any}
use Rattle.std.specs.Map.{lookup, set_value}
use Rattle.std.specs.Option.{unwrap_or}
use Rattle.indexmap.specs.IndexMap.{insert_entry}
use Rattle.rz_core.proofs.Tests.{both}
use Rattle.rz_core.specs.Resources.{id_bits, same_key, put, KeysDiffer}
use Rattle.rz_core.specs.declared.resource.OsType.{OsType}
use Rattle.rz_core.specs.declared.resource.Resource.{Resource}
use Rattle.rz_set.specs.After.{under_head, HasShortName}
use Rattle.rz_set.specs.Change.{changed, in_place_of, is_taken}
use Rattle.rz_set.specs.Fates.{keeps_key}
use Rattle.rz_set.specs.ResSet.{found, has_key, key_of, values_of, AreKeyed}
use Rattle.rz_set.specs.declared.pick.Head.{Head}
use Rattle.rz_set.proofs.Alone.{others, AreOthers}
use Rattle.rz_set.proofs.Finds.{found_in_map, found_some}
use Rattle.rz_set.proofs.Includes.{named_under}
use Rattle.rz_set.proofs.Puts.{key_eq, put_keyed, put_values}

-- a write through a key that the map has is what an insertion leaves
set_inserts : (key : ℕ × ℕ) (entries : List ((ℕ × ℕ) × Resource)) (old new : Resource) → lookup (key_eq key) entries ≡ Some old
    → set_value (key_eq key) entries new ≡ insert_entry key_eq entries key new
set_inserts key [] old new is = cc
set_inserts key (e ∷ es) old new is = by (set_inserts key es old new) (key_eq key e.0) is
  where
    by : (lookup (key_eq key) es ≡ Some old → set_value (key_eq key) es new ≡ insert_entry key_eq es key new) → (b : Bool)
        → (if b then Some e.1 else lookup (key_eq key) es) ≡ Some old
        → (if b then (e.0, new) ∷ es else e ∷ set_value (key_eq key) es new) ≡ (if b then (e.0, new) ∷ es else e ∷ insert_entry key_eq es key new)
    by later true is = refl
    by later false is = ap (λ (l : List ((ℕ × ℕ) × Resource)). e ∷ l) (later is)

module _ (kind : OsType) (id : ℤ) (head : Head) (keeps : keeps_key head kind id ≡ true) where
  parts : (head.kind.code == kind.code ≡ true) × ((cast_unsigned w16 (unwrap_or head.id id) == cast_unsigned w16 id) ≡ true)
  parts = both (head.kind.code == kind.code) (cast_unsigned w16 (unwrap_or head.id id) == cast_unsigned w16 id) keeps

  bits_kept : (o : Option ℤ) (own : ℤ) → cast_unsigned w16 (unwrap_or o id) ≡ cast_unsigned w16 id → cast_unsigned w16 id ≡ cast_unsigned w16 own
      → cast_unsigned w16 (unwrap_or o own) ≡ cast_unsigned w16 id
  bits_kept None own kept same = sym same
  bits_kept (Some new) own kept same = kept

  kind_under : head.kind.code ≡ kind.code
  kind_under = eqb-true head.kind.code kind.code parts.0

  bits_under : (r : Resource) → has_key kind id r ≡ true → id_bits (under_head head r) ≡ cast_unsigned w16 id
  bits_under r has =
      bits_kept head.id r.id (eqb-true (cast_unsigned w16 (unwrap_or head.id id)) (cast_unsigned w16 id) parts.1)
      (eqb-true (cast_unsigned w16 id) (id_bits r) (both (kind.code == r.kind.code) (cast_unsigned w16 id == id_bits r) has).1)

  -- under the head it has its key still
  key_under : (r : Resource) → has_key kind id r ≡ true → ◌≡◌ {A = ℕ × ℕ} (kind.code, cast_unsigned w16 id) (key_of head.kind (under_head head r).id)
  key_under r has = λ i. (sym kind_under i, sym (bits_under r has) i)

  tells : (r x : Resource) → has_key kind id r ≡ true → same_key (under_head head r) x ≡ has_key kind id x
  tells r x has = λ i. (kind_under i == x.kind.code) && (bits_under r has i == id_bits x)

  abbrev under_where : Resource → Resource
  under_where r = if has_key kind id r then under_head head r else r

  none_taken : (list : List Resource) (x : Resource) → has_key kind id x ≡ false → is_taken (has_key kind id) head list x ≡ false
  none_taken [] x other = refl
  none_taken (y ∷ ys) x other = by (none_taken ys x other) (has_key kind id y) refl
    where
      by : is_taken (has_key kind id) head ys x ≡ false → (b : Bool) → has_key kind id y ≡ b
          → list_any (λ new. same_key new x) (map (under_head head) (if b then y ∷ filter (has_key kind id) ys else filter (has_key kind id) ys)) ≡ false
      by later true has = λ i. (tells y x has ∙ other) i || later i
      by later false has = later

  changed_where : (all list : List Resource) → flat_map (in_place_of (has_key kind id) head all) list ≡ map under_where list
  changed_where all [] = refl
  changed_where all (x ∷ xs) = by (changed_where all xs) (has_key kind id x) refl
    where
      by : flat_map (in_place_of (has_key kind id) head all) xs ≡ map under_where xs → (b : Bool) → has_key kind id x ≡ b
          → (if b then under_head head x ∷ [] else if is_taken (has_key kind id) head all x then [] else x ∷ []) ++ flat_map (in_place_of (has_key kind id) head all) xs
          ≡ (if b then under_head head x else x) ∷ map under_where xs
      by later true has = ap (λ (l : List Resource). under_head head x ∷ l) later
      by later false has = λ i. (if none_taken all x has i then [] else x ∷ []) ++ later i

  others_stay : (xs : List Resource) → AreOthers kind id xs → map under_where xs ≡ xs
  others_stay [] are = refl
  others_stay (x ∷ xs) are = λ i. (if are.0 i then under_head head x else x) ∷ others_stay xs are.1 i

  put_where : (before list : List Resource) (one : Resource) → KeysDiffer before list → found kind id list ≡ Some one → put list (under_head head one) ≡ map under_where list
  put_where before [] one differ is = cc
  put_where before (x ∷ xs) one differ is = by (put_where (before ++ x ∷ []) xs one differ.1) (has_key kind id x) refl is
    where
      by : (found kind id xs ≡ Some one → put xs (under_head head one) ≡ map under_where xs) → (b : Bool) → has_key kind id x ≡ b
          → (if b then Some x else found kind id xs) ≡ Some one
          → (if same_key (under_head head one) x then under_head head one ∷ xs else x ∷ put xs (under_head head one)) ≡ (if b then under_head head x else x) ∷ map under_where xs
      by later true has is =
          let same : x ≡ one = cc in
          λ i. if (ap (λ r. same_key (under_head head r) x) (sym same) ∙ tells x x has ∙ has) i then under_head head (sym same i) ∷ sym (others_stay xs (others kind id x has before xs differ.1)) i else x ∷ put xs (under_head head one)
      by later false has is =
          λ i. if (tells one x (found_some kind id xs one is) ∙ has) i then under_head head one ∷ xs else x ∷ later is i

  -- the list in which it has come under the head
  put_changed : (list : List Resource) (one : Resource) → KeysDiffer [] list → found kind id list ≡ Some one → put list (under_head head one) ≡ changed (has_key kind id) head list
  put_changed list one differ is = put_where [] list one differ is ∙ sym (changed_where list list)

  none_where : (list : List Resource) → found kind id list ≡ None → map under_where list ≡ list
  none_where [] is = refl
  none_where (x ∷ xs) is = by (none_where xs) (has_key kind id x) is
    where
      by : (found kind id xs ≡ None → map under_where xs ≡ xs) → (b : Bool) → (if b then Some x else found kind id xs) ≡ None
          → (if b then under_head head x else x) ∷ map under_where xs ≡ x ∷ xs
      by later true is = cc
      by later false is = ap (λ (l : List Resource). x ∷ l) (later is)

  none_changed : (list : List Resource) → found kind id list ≡ None → list ≡ changed (has_key kind id) head list
  none_changed list is = sym (changed_where list list ∙ none_where list is)

  found_holds : (P : Resource → Type 0) (list : List Resource) (one : Resource) → AllByRecursion P list → found kind id list ≡ Some one → P one
  found_holds P [] one all is = cc
  found_holds P (x ∷ xs) one all is = by (found_holds P xs one all.1) (has_key kind id x) is
    where
      by : (found kind id xs ≡ Some one → P one) → (b : Bool) → (if b then Some x else found kind id xs) ≡ Some one → P one
      by later true is = let same : x ≡ one = cc in subst P same all.0
      by later false is = later is

  -- The write through the key of the map.

  module _ (entries after : List ((ℕ × ℕ) × Resource)) (keyed : AreKeyed entries) (bits : ℕ) (same : bits ≡ cast_unsigned w16 id) where
    abbrev key : ℕ × ℕ
    key = (kind.code, bits)

    held : (o : Option Resource) → lookup (key_eq key) entries ≡ o → found kind id (values_of entries) ≡ o
    held o is = sym (found_in_map kind id entries keyed) ∙ ap (λ (n : ℕ). lookup (key_eq (kind.code, n)) entries) (sym same) ∙ is

    pub none_stands : lookup (key_eq key) entries ≡ None → values_of entries ≡ changed (has_key kind id) head (values_of entries)
    none_stands is = none_changed (values_of entries) (held None is)

    module _ (one : Resource) (there : lookup (key_eq key) entries ≡ Some one) (written : after ≡ set_value (key_eq key) entries (under_head head one)) where
      own : ◌≡◌ {A = ℕ × ℕ} key (key_of head.kind (under_head head one).id)
      own = (λ i. (kind.code, same i)) ∙ key_under one (found_some kind id (values_of entries) one (held (Some one) there))

      inserted : after ≡ insert_entry key_eq entries key (under_head head one)
      inserted = written ∙ set_inserts key entries one (under_head head one) there

      pub stands_keyed : HasShortName (Some head) → AreKeyed after
      stands_keyed short =
          put_keyed entries after (under_head head one) keyed key own inserted
          (named_under (Some head) one short (found_holds (λ r. length r.name < 256) (values_of entries) one keyed.named (held (Some one) there)))

      pub stands_values : values_of after ≡ changed (has_key kind id) head (values_of entries)
      stands_values =
          put_values entries after (under_head head one) keyed key own inserted
          ∙ put_changed (values_of entries) one keyed.keys (held (Some one) there)
