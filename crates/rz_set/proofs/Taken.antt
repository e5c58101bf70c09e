-- Whose type and id a changed resource takes.
use Rattle.std.proofs.Common.{◌≡◌, ℤ, ◌==◌, ◌&&◌, ◌||◌, Bool, true, false, if◌then◌else◌, List, [], ◌∷◌, ◌++◌, filter, map, Option, Some, None, refl, sym, ap, ◌∙◌}
use Rattle.std.proofs.lemmas.Bool.{eqb-true}
use Rattle.std.specs.Int.{cast_unsigned, w16}
use Rattle.std.specs.List.{list_any}
use Rattle.std.specs.Option.{unwrap_or}
use Rattle.rz_core.proofs.Tests.{both, same_sym}
use Rattle.rz_core.specs.Resources.{id_bits, same_key, KeysDiffer}
use Rattle.rz_core.specs.declared.resource.OsType.{OsType}
use Rattle.rz_core.specs.declared.resource.Resource.{Resource}
use Rattle.rz_set.specs.After.{under_head}
use Rattle.rz_set.specs.Change.{is_taken}
use Rattle.rz_set.specs.ResSet.{found, has_key}
use Rattle.rz_set.specs.declared.pick.Head.{Head}
use Rattle.rz_set.proofs.Changes.{or_nothing}
use Rattle.rz_set.proofs.Named.{parts}
use Rattle.rz_set.proofs.Picks.{keys_meet}

absorbed : (k any : Bool) → (k || (any && k)) ≡ k
absorbed true any = refl
absorbed false true = refl
absorbed false false = refl

shared : (k e l : Bool) → ((k && e) || (k && l)) ≡ (k && (e || l))
shared true e l = refl
shared false e l = refl

none_shared : (k : Bool) → false ≡ (k && false)
none_shared true = refl
none_shared false = refl

and_false : (a b : Bool) → a ≡ true → (a && b) ≡ false → b ≡ false
and_false true b one is = is
and_false false b one is = cc

-- the test holds for the one, if it is there
abbrev pub holds : (Resource → Bool) → Option Resource → Bool
holds test None = false
holds test (Some one) = test one

module _ (test : Resource → Bool) (head : Head) (r : Resource) where
  pub taken_by_none : (list : List Resource) → (head.kind.code == r.kind.code) ≡ false → is_taken test head list r ≡ false
  taken_by_none [] other = refl
  taken_by_none (x ∷ xs) other = by (taken_by_none xs other) (test x)
    where
      by : is_taken test head xs r ≡ false → (b : Bool) → list_any (λ new. same_key new r) (map (under_head head) (if b then x ∷ filter test xs else filter test xs)) ≡ false
      by later true = λ i. (other i && (id_bits (under_head head x) == id_bits r)) || later i
      by later false = later

  -- Where the head has an id.

  module _ (id : ℤ) (given : head.id ≡ Some id) where
    abbrev key_is : Bool
    key_is = (head.kind.code == r.kind.code) && (cast_unsigned w16 id == id_bits r)

    key_under : (x : Resource) → same_key (under_head head x) r ≡ key_is
    key_under x = ap (λ (o : Option ℤ). (head.kind.code == r.kind.code) && (cast_unsigned w16 (unwrap_or o x.id) == id_bits r)) given

    taken_where : (list : List Resource) → is_taken test head list r ≡ (list_any test list && key_is)
    taken_where [] = refl
    taken_where (x ∷ xs) = by (taken_where xs) (test x)
      where
        by : is_taken test head xs r ≡ (list_any test xs && key_is) → (b : Bool)
            → list_any (λ new. same_key new r) (map (under_head head) (if b then x ∷ filter test xs else filter test xs)) ≡ ((b || list_any test xs) && key_is)
        by later true = (λ i. key_under x i || later i) ∙ absorbed key_is (list_any test xs)
        by later false = later

    pub taken_by_id : (list : List Resource) → list_any test list ≡ true → is_taken test head list r ≡ key_is
    taken_by_id list there = taken_where list ∙ ap (λ (b : Bool). b && key_is) there

  -- Where it has none.

  module _ (given : head.id ≡ None) where
    abbrev same_kind : Bool
    same_kind = head.kind.code == r.kind.code

    abbrev same_bits : Resource → Bool
    same_bits x = id_bits x == id_bits r

    own_key_under : (x : Resource) → same_key (under_head head x) r ≡ (same_kind && same_bits x)
    own_key_under x = ap (λ (o : Option ℤ). same_kind && (cast_unsigned w16 (unwrap_or o x.id) == id_bits r)) given

    taken_among : (list : List Resource) → is_taken test head list r ≡ (same_kind && list_any same_bits (filter test list))
    taken_among [] = none_shared same_kind
    taken_among (x ∷ xs) = by (taken_among xs) (test x)
      where
        by : is_taken test head xs r ≡ (same_kind && list_any same_bits (filter test xs)) → (b : Bool)
            → list_any (λ new. same_key new r) (map (under_head head) (if b then x ∷ filter test xs else filter test xs))
            ≡ (same_kind && list_any same_bits (if b then x ∷ filter test xs else filter test xs))
        by later true = (λ i. own_key_under x i || later i) ∙ shared same_kind (same_bits x) (list_any same_bits (filter test xs))
        by later false = later

    module _ (kind : OsType) (of_kind : (x : Resource) → test x ≡ true → (kind.code == x.kind.code) ≡ true) where
      module _ (x : Resource) (has : has_key kind r.id x ≡ true) where
        other_bits : (y : Resource) → test y ≡ true → same_key x y ≡ false → same_bits y ≡ false
        other_bits y is other = by (same_bits y) refl
          where
            parts_of : ((kind.code == x.kind.code) ≡ true) × ((id_bits r == id_bits x) ≡ true)
            parts_of = both (kind.code == x.kind.code) (id_bits r == id_bits x) has

            by : (b : Bool) → same_bits y ≡ b → b ≡ false
            by true same =
                let kinds : x.kind.code ≡ y.kind.code = sym (eqb-true kind.code x.kind.code parts_of.0) ∙ eqb-true kind.code y.kind.code (of_kind y is) in
                let bits : id_bits x ≡ id_bits y = sym (eqb-true (id_bits r) (id_bits x) parts_of.1) ∙ sym (eqb-true (id_bits y) (id_bits r) same) in
                sym (keys_meet x y kinds bits) ∙ other
            by false same = refl

        none_later : (before xs : List Resource) → ((y : Resource) → list_any (λ b. same_key b y) before ≡ false → same_key x y ≡ false)
            → KeysDiffer before xs → list_any same_bits (filter test xs) ≡ false
        none_later before [] out differ = refl
        none_later before (y ∷ ys) out differ =
            by (none_later (before ++ y ∷ []) ys (λ z none. out z (parts before y z none).0) differ.1) (test y) refl
          where
            by : list_any same_bits (filter test ys) ≡ false → (b : Bool) → test y ≡ b → list_any same_bits (if b then y ∷ filter test ys else filter test ys) ≡ false
            by later true is = λ i. other_bits y is (out y differ.0) i || later i
            by later false is = later

      -- a chosen one of the type and with these bits has the key that is looked for
      bits_found : (before list : List Resource) → KeysDiffer before list → list_any same_bits (filter test list) ≡ holds test (found kind r.id list)
      bits_found before [] differ = refl
      bits_found before (x ∷ xs) differ = by (bits_found (before ++ x ∷ []) xs differ.1) (test x) refl (has_key kind r.id x) refl
        where
          by : list_any same_bits (filter test xs) ≡ holds test (found kind r.id xs) → (b : Bool) → test x ≡ b → (h : Bool) → has_key kind r.id x ≡ h
              → list_any same_bits (if b then x ∷ filter test xs else filter test xs) ≡ holds test (if h then Some x else found kind r.id xs)
          by later true is true has =
              ap (λ (b : Bool). b || list_any same_bits (filter test xs))
              (same_sym (id_bits x) (id_bits r) ∙ (both (kind.code == x.kind.code) (id_bits r == id_bits x) has).1)
              ∙ sym is
          by later true is false has =
              ap (λ (b : Bool). b || list_any same_bits (filter test xs))
              (same_sym (id_bits x) (id_bits r) ∙ and_false (kind.code == x.kind.code) (id_bits r == id_bits x) (of_kind x is) has)
              ∙ later
          by later false is true has =
              none_later x has (before ++ x ∷ []) xs (λ z none. or_nothing (same_key x z) (parts before x z none).1) differ.1 ∙ sym is
          by later false is false has = later

      pub taken_by_type : (list : List Resource) → KeysDiffer [] list → is_taken test head list r ≡ (same_kind && holds test (found kind r.id list))
      taken_by_type list differ = taken_among list ∙ ap (λ (b : Bool). same_kind && b) (bits_found [] list differ)
