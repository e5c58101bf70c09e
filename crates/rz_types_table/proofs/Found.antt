-- The last that passes, and the list without the first that does.
use Rattle.std.proofs.Common.{◌≡◌, ℕ, zero, suc, Bool, true, false, ◌||◌, if◌then◌else◌, List, [], ◌∷◌, ◌++◌, map, take, Option, Some, None, refl, sym, ap, ◌∙◌}
use Rattle.std.specs.List.{list_any}
use Rattle.std.specs.Prelude.{option_to_list, set, slice_get}
use Rattle.std.proofs.lemmas.List.{append-nil, map-append}
use Rattle.std.proofs.lemmas.List.Concat.{flat_map-append}
use Rattle.std.proofs.lemmas.Option.{same_Some}
use Rattle.std.proofs.Math.Bool.{or-true}
use Rattle.rz_core.specs.Lists.{or_else}
use Rattle.rz_types_table.specs.Listed.{standing}
use Rattle.rz_types_table.specs.Table.{last_such, without}

if_first : {A : Type 0} (b : Bool) (y : A) (found later : Option A) → or_else (if b then Some y else found) later ≡ (if b then Some y else or_else found later)
if_first true y found later = refl
if_first false y found later = refl

pub last_such-push : {A : Type 0} (test : A → Bool) (xs : List A) (y : A) → last_such test (xs ++ y ∷ []) ≡ (if test y then Some y else last_such test xs)
last_such-push test [] y = refl
last_such-push test (x ∷ xs) y =
    ap (λ (o : Option _). or_else o (if test x then Some x else None)) (last_such-push test xs y)
    ∙ if_first (test y) y (last_such test xs) (if test x then Some x else None)

nothing_else : {A : Type 0} (o : Option A) → o ≡ or_else o None
nothing_else None = refl
nothing_else (Some x) = refl

module _ {A : Type 0} (test out : A → Bool) where
  without_by : ((x : A) → out x ≡ true → test x ≡ false) → (x : A) (xs : List A) → last_such test (without out xs) ≡ last_such test xs
      → (b : Bool) → out x ≡ b → last_such test (if b then xs else x ∷ without out xs) ≡ last_such test (x ∷ xs)
  without_by apart x xs same true is =
      nothing_else (last_such test xs) ∙ ap (λ b. or_else (last_such test xs) (if b then Some x else None)) (sym (apart x is))
  without_by apart x xs same false is = ap (λ (o : Option A). or_else o (if test x then Some x else None)) same

  -- what is taken out doesn't pass
  pub last_such-without : ((x : A) → out x ≡ true → test x ≡ false) → (xs : List A) → last_such test (without out xs) ≡ last_such test xs
  last_such-without apart [] = refl
  last_such-without apart (x ∷ xs) = without_by apart x xs (last_such-without apart xs) (out x) refl

-- Where none passes.

both_false : (a b : Bool) → (a || b) ≡ false → (a ≡ false) × (b ≡ false)
both_false false b none = (refl, none)
both_false true b none = cc

pub none_first : {A : Type 0} (test : A → Bool) (x : A) (xs : List A) → list_any test (x ∷ xs) ≡ false → (test x ≡ false) × (list_any test xs ≡ false)
none_first test x xs none = both_false (test x) (list_any test xs) none

pub last_such_none : {A : Type 0} (test : A → Bool) (xs : List A) → list_any test xs ≡ false → last_such test xs ≡ None
last_such_none test [] none = refl
last_such_none test (x ∷ xs) none =
    ap (λ (o : Option _). or_else o (if test x then Some x else None)) (last_such_none test xs ((none_first test x xs none).1))
    ∙ ap (λ b. if b then Some x else None) ((none_first test x xs none).0)

none_without_by : {A : Type 0} (test out : A → Bool) (x : A) (xs : List A) → list_any test xs ≡ false → test x ≡ false → list_any test (without out xs) ≡ false
    → (b : Bool) → list_any test (if b then xs else x ∷ without out xs) ≡ false
none_without_by test out x xs none fails same true = none
none_without_by test out x xs none fails same false = λ i. fails i || same i

pub none_without : {A : Type 0} (test out : A → Bool) (xs : List A) → list_any test xs ≡ false → list_any test (without out xs) ≡ false
none_without test out [] none = refl
none_without test out (x ∷ xs) none =
    none_without_by test out x xs ((none_first test x xs none).1) ((none_first test x xs none).0)
    (none_without test out xs ((none_first test x xs none).1)) (out x)

none_so_by : (a b : Bool) → (a ≡ true → b ≡ true) → b ≡ false → a ≡ false
none_so_by false b so fails = refl
none_so_by true b so fails = let never : true ≡ false = sym (so refl) ∙ fails in cc

-- what passes one test passes another, which none passes
pub none_so : {A : Type 0} (test other : A → Bool) → ((x : A) → test x ≡ true → other x ≡ true) → (xs : List A) → list_any other xs ≡ false → list_any test xs ≡ false
none_so test other so [] none = refl
none_so test other so (x ∷ xs) none =
    λ i. none_so_by (test x) (other x) (so x) ((none_first other x xs none).0) i || none_so test other so xs ((none_first other x xs none).1) i

-- Taking out.

pub without_none : {A : Type 0} (out : A → Bool) (xs : List A) → list_any out xs ≡ false → without out xs ≡ xs
without_none out [] none = refl
without_none out (x ∷ xs) none =
    ap (λ b. if b then xs else x ∷ without out xs) ((none_first out x xs none).0) ∙ ap (λ (l : List _). x ∷ l) (without_none out xs ((none_first out x xs none).1))

pub without_at : {A : Type 0} (out : A → Bool) (front behind : List A) (x : A) → list_any out front ≡ false → out x ≡ true
    → without out (front ++ x ∷ behind) ≡ front ++ behind
without_at out [] behind x none passes = ap (λ b. if b then behind else x ∷ without out behind) passes
without_at out (y ∷ front) behind x none passes =
    ap (λ b. if b then front ++ x ∷ behind else y ∷ without out (front ++ x ∷ behind)) ((none_first out y front none).0)
    ∙ ap (λ (l : List _). y ∷ l) (without_at out front behind x ((none_first out y front none).1) passes)

-- Slots.

pub standing-push : {A : Type 0} (slots : List (Option A)) (slot : Option A) → standing (slots ++ slot ∷ []) ≡ standing slots ++ option_to_list slot
standing-push slots slot =
    flat_map-append option_to_list slots (slot ∷ []) ∙ ap (λ (l : List _). standing slots ++ l) (append-nil (option_to_list slot))

pub any_there : {A B : Type 0} (test : B → Bool) (f : A → B) (slots : List (Option A)) (k : ℕ) (x : A) → slice_get slots k ≡ Some (Some x) → test (f x) ≡ true
    → list_any test (map f (standing slots)) ≡ true
any_there test f [] k x is passes = cc
any_there test f (None ∷ slots) zero x is passes = cc
any_there test f (None ∷ slots) (suc k) x is passes = any_there test f slots k x is passes
any_there test f (Some y ∷ slots) zero x is passes =
    ap (λ b. b || list_any test (map f (standing slots))) (ap (λ z. test (f z)) (same_Some y x (same_Some (Some y) (Some x) is)) ∙ passes)
any_there test f (Some y ∷ slots) (suc k) x is passes = ap (λ b. test (f y) || b) (any_there test f slots k x is passes) ∙ or-true (test (f y))

module _ {A B : Type 0} (f : A → B) (out : B → Bool) where
  pushed : (slots : List (Option A)) (y : A) → map f (standing (slots ++ Some y ∷ [])) ≡ map f (standing slots) ++ f y ∷ []
  pushed slots y = ap (λ (l : List A). map f l) (standing-push slots (Some y)) ∙ map-append f (standing slots) (y ∷ [])

  front_out : (slots : List (Option A)) (z y : A) (b : Bool) → out (f z) ≡ b
      → without out (map f (standing (Some z ∷ slots))) ++ f y ∷ [] ≡ (if b then map f (standing slots) else f z ∷ without out (map f (standing slots))) ++ f y ∷ []
  front_out slots z y b is = ap (λ b. (if b then map f (standing slots) else f z ∷ without out (map f (standing slots))) ++ f y ∷ []) is

  -- a new one at the end, and the slot of one that passes emptied
  pub taken_out : (slots : List (Option A)) (k : ℕ) (x y : A) → slice_get slots k ≡ Some (Some x) → out (f x) ≡ true
      → list_any out (map f (standing (take k slots))) ≡ false
      → map f (standing (set (slots ++ Some y ∷ []) k None)) ≡ without out (map f (standing slots)) ++ f y ∷ []
  taken_out [] k x y is passes none = cc
  taken_out (None ∷ slots) zero x y is passes none = cc
  taken_out (None ∷ slots) (suc k) x y is passes none = taken_out slots k x y is passes none
  taken_out (Some z ∷ slots) zero x y is passes none =
      pushed slots y ∙ sym (front_out slots z y true (ap (λ w. out (f w)) (same_Some z x (same_Some (Some z) (Some x) is)) ∙ passes))
  taken_out (Some z ∷ slots) (suc k) x y is passes none =
      let parts = none_first out (f z) (map f (standing (take k slots))) none in
      ap (λ (l : List B). f z ∷ l) (taken_out slots k x y is passes parts.1) ∙ sym (front_out slots z y false parts.0)

  pub nothing_out : (slots : List (Option A)) (y : A) → list_any out (map f (standing slots)) ≡ false
      → map f (standing (slots ++ Some y ∷ [])) ≡ without out (map f (standing slots)) ++ f y ∷ []
  nothing_out slots y none = pushed slots y ∙ ap (λ (l : List B). l ++ f y ∷ []) (sym (without_none out (map f (standing slots)) none))
