-- What is held of one resource or entry more.
use Rattle.std.proofs.Common.{◌≡◌, ℕ, ◌+◌, Bool, ◌||◌, List, [], ◌∷◌, ◌++◌, length, map, take, slice_get, Some, refl, ap, ◌∙◌, arith, is_some}
use Rattle.std.proofs.lemmas.List.{length-map, length-take-le, map-append}
use Rattle.std.proofs.lemmas.Option.{slice_get_within}
use Rattle.std.specs.List.{list_any, position_from}
use Rattle.rz_core.proofs.Lists.{take_at_more}
use Rattle.rz_catalog_text.specs.declared.entry.Entry.{Entry}
use Rattle.rz_catalog.proofs.Firsts.{any_position}
use Rattle.rz_catalog.specs.Apply.{same_leaf}
use Rattle.rz_catalog.specs.Held.{leaf_eq, leaf_key}

module _ {A B : Type 0} (f : A → B) (xs : List A) (k : ℕ) (x : A) (at : slice_get xs k ≡ Some x) where
  pub map_more : map f (take (k + 1) xs) ≡ map f (take k xs) ++ f x ∷ []
  map_more = ap (map f) (take_at_more xs k x at) ∙ map-append f (take k xs) (x ∷ [])

  pub taken_length : length (map f (take k xs)) ≡ k
  taken_length = let lt = slice_get_within xs k x at in length-map (take k xs) f ∙ length-take-le k xs (omega (arith, lt))

any_map : {A B : Type 0} (test : B → Bool) (f : A → B) (xs : List A) → list_any test (map f xs) ≡ list_any (λ x. test (f x)) xs
any_map test f [] = refl
any_map test f (x ∷ xs) = ap (λ b. test (f x) || b) (any_map test f xs)

-- whether one of the entries before is for the leaf of another
pub is_twice : (before : List Entry) (e : Entry) → is_some (position_from (leaf_eq (leaf_key e)) 0 (map leaf_key before)) ≡ list_any (same_leaf e) before
is_twice before e = any_position (leaf_eq (leaf_key e)) 0 (map leaf_key before) ∙ any_map (leaf_eq (leaf_key e)) leaf_key before
