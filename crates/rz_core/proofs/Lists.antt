-- What follows from words on lists whose rule for an item sees the items before it.
use Rattle.std.specs.Prelude.{◌≡◌, refl, Bool, true, false, ◌||◌, ℕ, zero, suc, ◌+◌, ◌<◌, ◌≤◌, List, [], ◌∷◌, ◌++◌, length, take, drop, slice_get}
use Rattle.std.proofs.Common.{sym, ap, ◌∙◌, ◌*◌, arith, length-append, mul-suc}
use Rattle.std.proofs.lemmas.List.{at_drop_more, at_drop_all, take_more}
use Rattle.std.proofs.lemmas.Option.{slice_get_within, get_or_from_slice_get, same_Some}
use Rattle.std.specs.List.{list_any, AllByRecursion}
use Rattle.std.proofs.lemmas.List.Folds.{list_any-append}
use Rattle.std.specs.declared.option.Option.{Option}
use Rattle.std.specs.declared.option.Option.TheVariants.{Some, None}
use Rattle.rz_core.specs.Lists.{first_in, or_else, with_front}

-- pieces that all have one length
pub length-with_front : {A B : Type 0} (piece : List A → A → List B) (size : ℕ) → ((front : List A) (x : A) → length (piece front x) ≡ size)
    → (front xs : List A) → length (with_front piece front xs) ≡ size * length xs
length-with_front piece size each front [] = omega arith
length-with_front piece size each front (x ∷ xs) =
    length-append (piece front x) (with_front piece (front ++ x ∷ []) xs)
    ∙ omega (arith, each front x, length-with_front piece size each (front ++ x ∷ []) xs, mul-suc size (length xs))

-- One item more. `x` is the item at position `i`.

pub take_at_more : {A : Type 0} (xs : List A) (i : ℕ) (x : A) → slice_get xs i ≡ Some x → take (i + 1) xs ≡ take i xs ++ x ∷ []
take_at_more xs i x is =
    take_more xs i x (slice_get_within xs i x is) ∙ ap (λ y. take i xs ++ y ∷ []) (get_or_from_slice_get xs i x x is)

module _ {A F : Type 0} (rule : List A → A → Option F) (xs : List A) (i : ℕ) (x : A) (is : slice_get xs i ≡ Some x) where
  first_in_at : first_in rule (take i xs) (drop i xs) ≡ or_else (rule (take i xs) x) (first_in rule (take (i + 1) xs) (drop (i + 1) xs))
  first_in_at =
      at_drop_more (first_in rule (take i xs)) xs i x (slice_get_within xs i x is)
      ∙ ap (λ (y : A). or_else (rule (take i xs) y) (first_in rule (take i xs ++ y ∷ []) (drop (i + 1) xs))) (get_or_from_slice_get xs i x x is)
      ∙ ap (λ (front : List A). or_else (rule (take i xs) x) (first_in rule front (drop (i + 1) xs))) (sym (take_at_more xs i x is))

  -- an item that keeps the rule leaves the first fault to those after it
  pub first_in_more : rule (take i xs) x ≡ None → first_in rule (take (i + 1) xs) (drop (i + 1) xs) ≡ first_in rule (take i xs) (drop i xs)
  first_in_more keeps = sym (first_in_at ∙ ap (λ (o : Option F). or_else o (first_in rule (take (i + 1) xs) (drop (i + 1) xs))) keeps)

  -- an item that breaks the rule has the first fault
  pub first_in_stop : (fault : F) → rule (take i xs) x ≡ Some fault → first_in rule (take i xs) (drop i xs) ≡ Some fault
  first_in_stop fault breaks = first_in_at ∙ ap (λ (o : Option F). or_else o (first_in rule (take (i + 1) xs) (drop (i + 1) xs))) breaks

-- after the last item there is no fault
pub first_in_end : {A F : Type 0} (rule : List A → A → Option F) (xs : List A) (i : ℕ) → length xs ≤ i → first_in rule (take i xs) (drop i xs) ≡ None
first_in_end rule xs i past = at_drop_all (first_in rule (take i xs)) xs i past

-- where neither of two faults is there, each is absent
pub or_else_none : {F : Type 0} (earlier later : Option F) → or_else earlier later ≡ None → (earlier ≡ None) × (later ≡ None)
or_else_none None later none = (refl, none)
or_else_none (Some fault) later none = cc

-- where a rule finds no fault, each item keeps it
pub first_in_none : {A F : Type 0} (rule : List A → A → Option F) (front xs : List A) (k : ℕ) (x : A)
    → first_in rule front xs ≡ None → slice_get xs k ≡ Some x → (before : List A) × (rule before x ≡ None)
first_in_none rule front [] k x none is = cc
first_in_none rule front (y ∷ xs) zero x none is =
    (front, ap (rule front) (sym (same_Some y x is)) ∙ (or_else_none (rule front y) (first_in rule (front ++ y ∷ []) xs) none).0)
first_in_none rule front (y ∷ xs) (suc k) x none is =
    first_in_none rule (front ++ y ∷ []) xs k x ((or_else_none (rule front y) (first_in rule (front ++ y ∷ []) xs) none).1) is

-- Tests of the first items.

-- one more that fails the test
pub any_more : {A : Type 0} (test : A → Bool) (xs : List A) (i : ℕ) (x : A) → slice_get xs i ≡ Some x → test x ≡ false → list_any test (take i xs) ≡ false → list_any test (take (i + 1) xs) ≡ false
any_more test xs i x is fails so_far =
    ap (list_any test) (take_at_more xs i x is) ∙ list_any-append test (take i xs) (x ∷ []) ∙ (λ j. so_far j || (fails j || false))

or_true : (b : Bool) → (b || true) ≡ true
or_true true = refl
or_true false = refl

-- one among them that passes it
pub any_stop : {A : Type 0} (test : A → Bool) (xs : List A) (k i : ℕ) (x : A) → slice_get xs i ≡ Some x → i < k → test x ≡ true → list_any test (take k xs) ≡ true
any_stop test [] k i x is below passes = cc
any_stop test (y ∷ xs) zero i x is below passes = absurd (omega arith)
any_stop test (y ∷ xs) (suc k) zero x is below passes = ap (λ b. b || list_any test (take k xs)) (ap test (same_Some y x is) ∙ passes)
any_stop test (y ∷ xs) (suc k) (suc i) x is below passes =
    ap (λ b. test y || b) (any_stop test xs k i x is (omega arith) passes) ∙ or_true (test y)

-- What holds of every item.

-- of two lists put together
pub all_append : {A : Type 0} (P : A → Type 0) (xs ys : List A) → AllByRecursion P xs → AllByRecursion P ys → AllByRecursion P (xs ++ ys)
all_append P [] ys front back = back
all_append P (x ∷ xs) ys front back = (front.0, all_append P xs ys front.1 back)

-- and of each of the two
pub all_split : {A : Type 0} (P : A → Type 0) (xs ys : List A) → AllByRecursion P (xs ++ ys) → AllByRecursion P xs × AllByRecursion P ys
all_split P [] ys all = (tt, all)
all_split P (x ∷ xs) ys all = let rest = all_split P xs ys all.1 in ((all.0, rest.0), rest.1)
