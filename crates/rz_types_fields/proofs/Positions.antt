-- The positions in a list of those that pass a test: with one item more, and what is read at them.
use Rattle.std.proofs.Common.{◌≡◌, ℕ, zero, suc, ◌+◌, ◌<◌, Bool, true, false, if◌then◌else◌, List, [], ◌∷◌, ◌++◌, get_or, length, map, take, filter, Option, Some, None, refl, sym, ap, ◌∙◌, arith, append_assoc}
use Rattle.std.specs.Option.{option_to_list}
use Rattle.std.specs.Prelude.{option_map, slice_get}
use Rattle.std.proofs.lemmas.List.{map-append, take_more}
use Rattle.std.proofs.lemmas.Option.{same_Some, slice_get-map, slice_get_read}
use Rattle.rz_types_fields.specs.Positions.{positions}

-- One position more.

map_if : (b : Bool) (n : ℕ) → map suc (if b then n ∷ [] else []) ≡ (if b then suc n ∷ [] else [])
map_if true n = refl
map_if false n = refl

module _ {A : Type 0} (test : A → Bool) where
  rest_more : (xs : List A) (y : A) → positions test (xs ++ y ∷ []) ≡ positions test xs ++ (if test y then length xs ∷ [] else [])
      → map suc (positions test (xs ++ y ∷ [])) ≡ map suc (positions test xs) ++ (if test y then suc (length xs) ∷ [] else [])
  rest_more xs y same =
      ap (λ (l : List ℕ). map suc l) same
      ∙ map-append suc (positions test xs) (if test y then length xs ∷ [] else [])
      ∙ ap (λ (l : List ℕ). map suc (positions test xs) ++ l) (map_if (test y) (length xs))

  more_by : (xs : List A) (y : A) → map suc (positions test (xs ++ y ∷ [])) ≡ map suc (positions test xs) ++ (if test y then suc (length xs) ∷ [] else [])
      → (b : Bool) → (if b then 0 ∷ map suc (positions test (xs ++ y ∷ [])) else map suc (positions test (xs ++ y ∷ [])))
      ≡ (if b then 0 ∷ map suc (positions test xs) else map suc (positions test xs)) ++ (if test y then suc (length xs) ∷ [] else [])
  more_by xs y same true = ap (λ (l : List ℕ). 0 ∷ l) same
  more_by xs y same false = same

  pub positions-push : (xs : List A) (y : A) → positions test (xs ++ y ∷ []) ≡ positions test xs ++ (if test y then length xs ∷ [] else [])
  positions-push [] y = refl
  positions-push (x ∷ xs) y = more_by xs y (rest_more xs y (positions-push xs y)) (test x)

-- What is read.

abbrev pub at_positions : {A : Type 0} → List A → List ℕ → List A
at_positions xs [] = []
at_positions xs (k ∷ ks) = option_to_list (slice_get xs k) ++ at_positions xs ks

at_append : {A : Type 0} (xs : List A) (ks ls : List ℕ) → at_positions xs (ks ++ ls) ≡ at_positions xs ks ++ at_positions xs ls
at_append xs [] ls = refl
at_append xs (k ∷ ks) ls =
    ap (λ (l : List _). option_to_list (slice_get xs k) ++ l) (at_append xs ks ls)
    ∙ sym (append_assoc (option_to_list (slice_get xs k)) (at_positions xs ks) (at_positions xs ls))

-- one item more is read
pub at_more : {A : Type 0} (xs : List A) (ks : List ℕ) (i : ℕ) (x : A) → i < length ks → get_or ks i 0 < length xs → x ≡ get_or xs (get_or ks i 0) x
    → at_positions xs (take (i + 1) ks) ≡ at_positions xs (take i ks) ++ x ∷ []
at_more xs ks i x below within is =
    ap (at_positions xs) (take_more ks i 0 below)
    ∙ at_append xs (take i ks) (get_or ks i 0 ∷ [])
    ∙ ap (λ o. at_positions xs (take i ks) ++ (option_to_list o ++ [])) (slice_get_read xs (length xs) (get_or ks i 0) x refl within is)

pub at_shift : {A : Type 0} (x : A) (xs : List A) (ks : List ℕ) → at_positions (x ∷ xs) (map suc ks) ≡ at_positions xs ks
at_shift x xs [] = refl
at_shift x xs (k ∷ ks) = ap (λ (l : List _). option_to_list (slice_get xs k) ++ l) (at_shift x xs ks)

pub some_suc : (o : Option ℕ) (p : ℕ) → option_map suc o ≡ Some p → (q : ℕ) × (o ≡ Some q) × (suc q ≡ p)
some_suc None p is = cc
some_suc (Some q) p is = (q, refl, same_Some (suc q) p is)

module _ {A : Type 0} (test : A → Bool) where
  all_by : (x : A) (xs : List A) → at_positions xs (positions test xs) ≡ filter test xs
      → (b : Bool) → at_positions (x ∷ xs) (if b then 0 ∷ map suc (positions test xs) else map suc (positions test xs))
      ≡ (if b then x ∷ filter test xs else filter test xs)
  all_by x xs same true = ap (λ (l : List A). x ∷ l) (at_shift x xs (positions test xs) ∙ same)
  all_by x xs same false = at_shift x xs (positions test xs) ∙ same

  -- at all positions
  pub at_all : (xs : List A) → at_positions xs (positions test xs) ≡ filter test xs
  at_all [] = refl
  at_all (x ∷ xs) = all_by x xs (at_all xs) (test x)

  within_by : (xs : List A) (ks : List ℕ) → ((i p : ℕ) → slice_get ks i ≡ Some p → p < length xs)
      → (b : Bool) (i p : ℕ) → slice_get (if b then 0 ∷ map suc ks else map suc ks) i ≡ Some p → p < suc (length xs)
  within_by xs ks below true zero p is = let first = same_Some 0 p is in omega arith
  within_by xs ks below true (suc i) p is =
      let before = some_suc (slice_get ks i) p (sym (slice_get-map suc ks i) ∙ is) in
      let h : before.0 < length xs = below i before.0 before.1 in omega (arith, h, before.2)
  within_by xs ks below false i p is =
      let before = some_suc (slice_get ks i) p (sym (slice_get-map suc ks i) ∙ is) in
      let h : before.0 < length xs = below i before.0 before.1 in omega (arith, h, before.2)

  -- each is one of the list
  pub positions_within : (xs : List A) (i p : ℕ) → slice_get (positions test xs) i ≡ Some p → p < length xs
  positions_within [] i p is = cc
  positions_within (x ∷ xs) i p is = within_by xs (positions test xs) (positions_within xs) (test x) i p is
