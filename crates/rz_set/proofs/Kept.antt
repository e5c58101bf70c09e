-- What holds of the resources that are kept of a list.
use Rattle.std.proofs.Common.{◌≡◌, ℕ, ◌||◌, Bool, true, false, if◌then◌else◌, List, [], ◌∷◌, ◌++◌, ◌<◌, length, filter, refl, sym, ap, subst, ◌∙◌}
use Rattle.std.specs.List.{AllByRecursion, list_any}
use Rattle.std.proofs.lemmas.List.Folds.{list_any-append}
use Rattle.rz_core.specs.Resources.{same_key, KeysDiffer}
use Rattle.rz_core.specs.declared.resource.Resource.{Resource}
use Rattle.rz_set.specs.ResSet.{key_of, keyed, values_of, AreKeyed, AreNamed}

or_none : (a b c d : Bool) → (a || (b || false)) ≡ false → (a ≡ false → c ≡ false) → (c || (b || false)) ≡ false
or_none true b c d is fewer = cc
or_none false b c d is fewer = (λ i. fewer refl i || (b || false)) ∙ is

or_first : (a b : Bool) → (a || b) ≡ false → a ≡ false
or_first true b is = cc
or_first false b is = refl

module _ (q : Resource → Bool) where
  pub values_kept : (es : List ((ℕ × ℕ) × Resource)) → values_of (filter (λ e. q e.1) es) ≡ filter q (values_of es)
  values_kept [] = refl
  values_kept (e ∷ es) = by (values_kept es) (q e.1)
    where
      by : values_of (filter (λ e. q e.1) es) ≡ filter q (values_of es) → (b : Bool)
          → values_of (if b then e ∷ filter (λ e. q e.1) es else filter (λ e. q e.1) es) ≡ (if b then e.1 ∷ filter q (values_of es) else filter q (values_of es))
      by later true = ap (λ (l : List Resource). e.1 ∷ l) later
      by later false = later

  keyed_kept : (list : List Resource) → filter (λ e. q e.1) (keyed list) ≡ keyed (filter q list)
  keyed_kept [] = refl
  keyed_kept (x ∷ xs) = by (keyed_kept xs) (q x)
    where
      by : filter (λ e. q e.1) (keyed xs) ≡ keyed (filter q xs) → (b : Bool)
          → (if b then (key_of x.kind x.id, x) ∷ filter (λ e. q e.1) (keyed xs) else filter (λ e. q e.1) (keyed xs)) ≡ keyed (if b then x ∷ filter q xs else filter q xs)
      by later true = ap (λ (l : List ((ℕ × ℕ) × Resource)). (key_of x.kind x.id, x) ∷ l) later
      by later false = later

  all_kept : (P : Resource → Type 0) (list : List Resource) → AllByRecursion P list → AllByRecursion P (filter q list)
  all_kept P [] all = tt
  all_kept P (x ∷ xs) all = by (all_kept P xs all.1) (q x)
    where
      by : AllByRecursion P (filter q xs) → (b : Bool) → AllByRecursion P (if b then x ∷ filter q xs else filter q xs)
      by later true = (all.0, later)
      by later false = later

  pub differ_kept : (before kept list : List Resource)
      → ((r : Resource) → list_any (λ b. same_key b r) before ≡ false → list_any (λ b. same_key b r) kept ≡ false)
      → KeysDiffer before list → KeysDiffer kept (filter q list)
  differ_kept before kept [] fewer differ = tt
  differ_kept before kept (x ∷ xs) fewer differ =
      by (differ_kept (before ++ x ∷ []) (kept ++ x ∷ []) xs more differ.1) (differ_kept (before ++ x ∷ []) kept xs less differ.1) (q x)
    where
      more : (r : Resource) → list_any (λ b. same_key b r) (before ++ x ∷ []) ≡ false → list_any (λ b. same_key b r) (kept ++ x ∷ []) ≡ false
      more r none =
          list_any-append (λ b. same_key b r) kept (x ∷ [])
          ∙ or_none (list_any (λ b. same_key b r) before) (same_key x r) (list_any (λ b. same_key b r) kept) false
          (sym (list_any-append (λ b. same_key b r) before (x ∷ [])) ∙ none) (fewer r)

      less : (r : Resource) → list_any (λ b. same_key b r) (before ++ x ∷ []) ≡ false → list_any (λ b. same_key b r) kept ≡ false
      less r none = fewer r (or_first (list_any (λ b. same_key b r) before) (same_key x r || false) (sym (list_any-append (λ b. same_key b r) before (x ∷ [])) ∙ none))

      by : KeysDiffer (kept ++ x ∷ []) (filter q xs) → KeysDiffer kept (filter q xs) → (b : Bool) → KeysDiffer kept (if b then x ∷ filter q xs else filter q xs)
      by with_it without true = (fewer x differ.0, with_it)
      by with_it without false = without

  -- what is left of the entries of a set is keyed too
  pub are_keyed : (entries : List ((ℕ × ℕ) × Resource)) → AreKeyed entries → AreKeyed (filter (λ e. q e.1) entries)
  are_keyed entries is = record {
    keyed = ap (λ (es : List ((ℕ × ℕ) × Resource)). filter (λ e. q e.1) es) is.keyed ∙ keyed_kept (values_of entries) ∙ ap keyed (sym (values_kept entries));
    keys = subst (KeysDiffer []) (sym (values_kept entries)) (differ_kept [] [] (values_of entries) (λ r none. none) is.keys);
    named = subst AreNamed (sym (values_kept entries)) (all_kept (λ r. length r.name < 256) (values_of entries) is.named);
  }
