-- What a put leaves: its step in a map from keys, and what it keeps.
use Rattle.std.proofs.Common.{◌≡◌, ℕ, ◌==◌, ◌&&◌, ◌||◌, Bool, true, false, if◌then◌else◌, List, [], ◌∷◌, ◌++◌, length, map, ◌<◌, refl, sym, ap, subst, ◌∙◌, append_assoc}
use Rattle.std.proofs.lemmas.Bool.{eqb-true}
use Rattle.std.specs.List.{AllByRecursion, list_any}
use Rattle.std.proofs.lemmas.List.Folds.{list_any-append}
use Rattle.indexmap.specs.IndexMap.{insert_entry}
use Rattle.rz_core.proofs.Tests.{both, same_sym}
use Rattle.rz_core.specs.Resources.{id_bits, same_key, put, KeysDiffer}
use Rattle.rz_core.specs.declared.resource.Resource.{Resource}
use Rattle.rz_set.specs.ResSet.{key_of, keyed, values_of, AreKeyed, AreNamed}

-- the same key
abbrev pub key_eq : ℕ × ℕ → ℕ × ℕ → Bool
key_eq x y = (x.0 == y.0) && (x.1 == y.1)

pub same_code : (r x : Resource) → same_key r x ≡ true → r.kind.code ≡ x.kind.code
same_code r x is = eqb-true r.kind.code x.kind.code (both (r.kind.code == x.kind.code) (id_bits r == id_bits x) is).0

pub same_id : (r x : Resource) → same_key r x ≡ true → id_bits r ≡ id_bits x
same_id r x is = eqb-true (id_bits r) (id_bits x) (both (r.kind.code == x.kind.code) (id_bits r == id_bits x) is).1

insert_keyed : (list : List Resource) (r : Resource) → insert_entry key_eq (keyed list) (key_of r.kind r.id) r ≡ keyed (put list r)
insert_keyed [] r = refl
insert_keyed (x ∷ xs) r = by (insert_keyed xs r) (same_key r x) refl
  where
    by : insert_entry key_eq (keyed xs) (key_of r.kind r.id) r ≡ keyed (put xs r) → (b : Bool) → same_key r x ≡ b
        → (if b then (key_of x.kind x.id, r) ∷ keyed xs else (key_of x.kind x.id, x) ∷ insert_entry key_eq (keyed xs) (key_of r.kind r.id) r) ≡ keyed (if b then r ∷ xs else x ∷ put xs r)
    by later true is = λ i. ((sym (same_code r x is) i, sym (same_id r x is) i), r) ∷ keyed xs
    by later false is = ap (λ (l : List ((ℕ × ℕ) × Resource)). (key_of x.kind x.id, x) ∷ l) later

values_keyed : (list : List Resource) → map (λ e. e.1) (keyed list) ≡ list
values_keyed [] = refl
values_keyed (x ∷ xs) = ap (λ (l : List Resource). x ∷ l) (values_keyed xs)

-- what holds of each resource of a list and of a new one holds of each after it is put
all_put : (P : Resource → Type 0) (list : List Resource) (r : Resource) → AllByRecursion P list → P r → AllByRecursion P (put list r)
all_put P [] r all one = (one, tt)
all_put P (x ∷ xs) r all one = by (all_put P xs r all.1 one) (same_key r x)
  where
    by : AllByRecursion P (put xs r) → (b : Bool) → AllByRecursion P (if b then r ∷ xs else x ∷ put xs r)
    by later true = (one, all.1)
    by later false = (all.0, later)

-- two resources of one key are alike to every test of keys
pub same_to : (r x y : Resource) → same_key r x ≡ true → same_key x y ≡ same_key r y
same_to r x y is = λ i. (sym (same_code r x is) i == y.kind.code) && (sym (same_id r x is) i == id_bits y)

exchanged : (before mid xs : List Resource) (r x : Resource) → same_key r x ≡ true → KeysDiffer (before ++ x ∷ mid) xs → KeysDiffer (before ++ r ∷ mid) xs
exchanged before mid [] r x is differ = tt
exchanged before mid (y ∷ xs) r x is differ =
    let test : Resource → Bool = λ b. same_key b y in
    let same : list_any test (before ++ r ∷ mid) ≡ list_any test (before ++ x ∷ mid) =
    list_any-append test before (r ∷ mid) ∙ ap (λ b. list_any test before || (b || list_any test mid)) (sym (same_to r x y is)) ∙ sym (list_any-append test before (x ∷ mid)) in (
      same ∙ differ.0,
      subst (λ (l : List Resource). KeysDiffer l xs) (sym (append_assoc before (r ∷ mid) (y ∷ [])))
          (exchanged before (mid ++ y ∷ []) xs r x is (subst (λ (l : List Resource). KeysDiffer l xs) (append_assoc before (x ∷ mid) (y ∷ [])) differ.1)),
    )

pub flipped : (r x : Resource) → same_key r x ≡ same_key x r
flipped r x = λ i. same_sym r.kind.code x.kind.code i && same_sym (id_bits r) (id_bits x) i

-- a resource put into a list leaves its keys different, where it is like none of those before
differ_put : (before list : List Resource) (r : Resource) → KeysDiffer before list → list_any (λ b. same_key b r) before ≡ false → KeysDiffer before (put list r)
differ_put before [] r differ new = (new, tt)
differ_put before (x ∷ xs) r differ new = by (differ_put (before ++ x ∷ []) xs r differ.1) (same_key r x) refl
  where
    by : (list_any (λ b. same_key b r) (before ++ x ∷ []) ≡ false → KeysDiffer (before ++ x ∷ []) (put xs r))
        → (b : Bool) → same_key r x ≡ b → KeysDiffer before (if b then r ∷ xs else x ∷ put xs r)
    by later true is = (new, exchanged before [] xs r x is differ.1)
    by later false is = (
      differ.0,
      later (
          list_any-append (λ b. same_key b r) before (x ∷ [])
          ∙ λ i. new i || ((sym (flipped r x) ∙ is) i || false)
          ),
    )

-- The step of the map.

module _ (entries after : List ((ℕ × ℕ) × Resource)) (r : Resource) (is : AreKeyed entries) (key : ℕ × ℕ) (same : key ≡ key_of r.kind r.id)
    (inserted : after ≡ insert_entry key_eq entries key r) where
  stands : after ≡ keyed (put (values_of entries) r)
  stands =
      inserted
      ∙ (λ i. insert_entry key_eq (is.keyed i) (same i) r)
      ∙ insert_keyed (values_of entries) r

  pub put_values : values_of after ≡ put (values_of entries) r
  put_values = ap values_of stands ∙ values_keyed (put (values_of entries) r)

  pub put_keyed : length r.name < 256 → AreKeyed after
  put_keyed short = record {
    keyed = stands ∙ ap keyed (sym put_values);
    keys = subst (KeysDiffer []) (sym put_values) (differ_put [] (values_of entries) r is.keys refl);
    named = subst AreNamed (sym put_values) (all_put (λ x. length x.name < 256) (values_of entries) r is.named short);
  }
