-- Items that are numbered from 0.
use Rattle.std.proofs.Common.{◌≡◌, ℕ, suc, Bool, true, false, List, [], ◌∷◌, ◌++◌, length, map, Option, Some, cond, refl, sym, ap, ◌∙◌, arith}
use Rattle.std.specs.Prelude.{◌==◌, ◌&&◌, filter, if◌then◌else◌, option_map}
use Rattle.std.specs.List.{list_any}
use Rattle.std.specs.Option.{unwrap_or}
use Rattle.std.proofs.lemmas.List.{length-append}
use Rattle.rz_core.proofs.Tests.{or_false}
use Rattle.rz_core.specs.Lists.{with_front}
use Rattle.rz_core.specs.declared.resource.Resource.{Resource}
use Rattle.rz_catalog_text.specs.declared.entry.Entry.{Entry}
use Rattle.rz_catalog.specs.Apply.{first_such, is_entry_for, placed, text_for}
use Rattle.rz_catalog.specs.Catalogue.{entries_of, entry_of}
use Rattle.rz_catalog.specs.Became.{with_text}

module _ {A B : Type 0} where
  abbrev pub numbered : (ℕ → A → B) → ℕ → List A → List B
  numbered f k [] = []
  numbered f k (x ∷ xs) = f k x ∷ numbered f (suc k) xs

  pub numbered_is : (f : ℕ → A → B) (front xs : List A) → with_front (λ before x. f (length before) x ∷ []) front xs ≡ numbered f (length front) xs
  numbered_is f front [] = refl
  numbered_is f front (x ∷ xs) =
      let next : length (front ++ x ∷ []) ≡ suc (length front) = omega (arith, length-append front (x ∷ [])) in
      ap (λ (ys : List B). f (length front) x ∷ ys) (numbered_is f (front ++ x ∷ []) xs ∙ ap (λ (k : ℕ). numbered f k xs) next)

pub numbered_map : {A B C : Type 0} (g : B → C) (f : ℕ → A → B) (k : ℕ) (xs : List A) → map g (numbered f k xs) ≡ numbered (λ n x. g (f n x)) k xs
numbered_map g f k [] = refl
numbered_map g f k (x ∷ xs) = ap (λ ys. g (f k x) ∷ ys) (numbered_map g f (suc k) xs)

pub numbered_twice : {A B C : Type 0} (g : ℕ → B → C) (f : ℕ → A → B) (k : ℕ) (xs : List A) → numbered g k (numbered f k xs) ≡ numbered (λ n x. g n (f n x)) k xs
numbered_twice g f k [] = refl
numbered_twice g f k (x ∷ xs) = ap (λ ys. g k (f k x) ∷ ys) (numbered_twice g f (suc k) xs)

pub numbered_own : {A : Type 0} (k : ℕ) (xs : List A) → numbered (λ n x. x) k xs ≡ xs
numbered_own k [] = refl
numbered_own k (x ∷ xs) = ap (λ ys. x ∷ ys) (numbered_own (suc k) xs)

-- Items that pass.

module _ {A : Type 0} (p : A → Bool) where
  pub first_filtered : (q : A → Bool) (xs : List A) → first_such q (filter p xs) ≡ first_such (λ x. p x && q x) xs
  first_filtered q [] = refl
  first_filtered q (x ∷ xs) = by (first_filtered q xs) (p x)
    where
      by : first_such q (filter p xs) ≡ first_such (λ y. p y && q y) xs → (b : Bool) → first_such q (cond b (x ∷ filter p xs) (filter p xs)) ≡ (if b && q x then Some x else first_such (λ y. p y && q y) xs)
      by others true = ap (λ (rest : Option A). if q x then Some x else rest) others
      by others false = others

  pub none_filtered : (xs : List A) → list_any p xs ≡ false → filter p xs ≡ []
  none_filtered [] none = refl
  none_filtered (x ∷ xs) none =
      let each = or_false (p x) (list_any p xs) none in ap (λ (b : Bool). cond b (x ∷ filter p xs) (filter p xs)) each.0 ∙ none_filtered xs each.1

-- Texts of entries.

pub placed_none : (texts : List (List ℕ)) → placed [] texts ≡ texts
placed_none texts = numbered_is (text_for []) [] texts ∙ numbered_own 0 texts

-- the entries of a resource with texts in place are its entries with these texts
pub entries_placed : (entries : List Entry) (r : Resource) (texts : List (List ℕ))
    → entries_of r.kind r.id (placed (filter (is_entry_for r) entries) texts) ≡ map (with_text entries) (entries_of r.kind r.id texts)
entries_placed entries r texts =
    let mine = filter (is_entry_for r) entries in
    let each : (k : ℕ) (text : List ℕ) → entry_of r.kind r.id k (text_for mine k text) ≡ with_text entries (entry_of r.kind r.id k text) = λ k text.
    ap (λ (found : Option Entry). entry_of r.kind r.id k (unwrap_or (option_map (λ e. e.text) found) text)) (first_filtered (is_entry_for r) (λ e. k == e.leaf) entries) in
    numbered_is (entry_of r.kind r.id) [] (placed mine texts)
    ∙ ap (numbered (entry_of r.kind r.id) 0) (numbered_is (text_for mine) [] texts)
    ∙ numbered_twice (entry_of r.kind r.id) (text_for mine) 0 texts
    ∙ (λ i. numbered (λ k text. each k text i) 0 texts)
    ∙ sym (numbered_map (with_text entries) (entry_of r.kind r.id) 0 texts)
    ∙ ap (map (with_text entries)) (sym (numbered_is (entry_of r.kind r.id) [] texts))
