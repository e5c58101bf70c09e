-- Lists of which some items, or all, pass a test.
use Rattle.std.proofs.Common.{◌≡◌, Bool, true, false, cond, ◌&&◌, ◌||◌, List, [], ◌∷◌, ◌++◌, Option, Some, None, refl, sym, ap, ◌∙◌, subst}
use Rattle.std.specs.Prelude.{if◌then◌else◌, option_map}
use Rattle.std.specs.List.{find, flat_map, list_all, list_any, AllByRecursion}
use Rattle.std.specs.Option.{is_some, option_or}
use Rattle.std.proofs.lemmas.List.Folds.{find-append, list_all-append, list_any-append}
use Rattle.rz_core.proofs.Tests.{and_so, both, by_test, or_false}

-- Tests.

pub or_no : (a : Bool) → (a || false) ≡ a
or_no true = refl
or_no false = refl

pub and_yes : (a : Bool) → (a && true) ≡ a
and_yes true = refl
and_yes false = refl

or_right : (a b : Bool) → b ≡ true → (a || b) ≡ true
or_right true b is = refl
or_right false b is = is

and_no : (a b : Bool) → b ≡ false → (a && b) ≡ false
and_no true b is = is
and_no false b is = refl

-- Items.

-- an item that passes
pub record Passes {A : Type 0} (test : A → Bool) : Type 0 where
  pub item : A
  pub is : test item ≡ true

pub passes : {A : Type 0} (test : A → Bool) (xs : List A) → list_any test xs ≡ true → Passes test
passes test [] any = absurd cc
passes test (x ∷ xs) any =
    by_test (Passes test) (test x) (λ here. record { item = x; is = here }) (λ absent. passes test xs (sym (ap (λ (b : Bool). b || list_any test xs) absent) ∙ any))

-- an item that passes two tests
pub record Meets {A : Type 0} (one other : A → Bool) : Type 0 where
  pub item : A
  pub first : one item ≡ true
  pub second : other item ≡ true

-- where all pass the first, and one the second
pub meets : {A : Type 0} (one other : A → Bool) (xs : List A) → list_all one xs ≡ true → list_any other xs ≡ true → Meets one other
meets one other [] all any = absurd cc
meets one other (x ∷ xs) all any =
    let each = both (one x) (list_all one xs) all in
    by_test (Meets one other) (other x) (λ here. record { item = x; first = each.0; second = here })
    (λ absent. meets one other xs each.1 (sym (ap (λ (b : Bool). b || list_any other xs) absent) ∙ any))

pub all_more : {A : Type 0} (one other : A → Bool) → ((x : A) → one x ≡ true → other x ≡ true) → (xs : List A) → list_all one xs ≡ true → list_all other xs ≡ true
all_more one other leads [] all = refl
all_more one other leads (x ∷ xs) all =
    let each = both (one x) (list_all one xs) all in and_so (other x) (list_all other xs) (leads x each.0) (all_more one other leads xs each.1)

pub any_more : {A : Type 0} (one other : A → Bool) → ((x : A) → one x ≡ true → other x ≡ true) → (xs : List A) → list_any one xs ≡ true → list_any other xs ≡ true
any_more one other leads [] any = any
any_more one other leads (x ∷ xs) any =
    by_test (list_any other (x ∷ xs) ≡ true) (one x) (λ here. ap (λ (b : Bool). b || list_any other xs) (leads x here))
    (λ absent. or_right (other x) (list_any other xs) (any_more one other leads xs (sym (ap (λ (b : Bool). b || list_any one xs) absent) ∙ any)))

-- where none passes a test, all pass another
pub none_all : {A : Type 0} (one other : A → Bool) → ((x : A) → one x ≡ false → other x ≡ true) → (xs : List A) → list_any one xs ≡ false → list_all other xs ≡ true
none_all one other leads [] none = refl
none_all one other leads (x ∷ xs) none =
    let each = or_false (one x) (list_any one xs) none in and_so (other x) (list_all other xs) (leads x each.0) (none_all one other leads xs each.1)

pub none_any : {A : Type 0} (test : A → Bool) → ((x : A) → test x ≡ false) → (xs : List A) → list_any test xs ≡ false
none_any test fails [] = refl
none_any test fails (x ∷ xs) = ap (λ (b : Bool). b || list_any test xs) (fails x) ∙ none_any test fails xs

-- Two lists.

pub all_two : {A : Type 0} (test : A → Bool) (xs ys : List A) → list_all test (xs ++ ys) ≡ true → (list_all test xs ≡ true) × (list_all test ys ≡ true)
all_two test xs ys all = both (list_all test xs) (list_all test ys) (sym (list_all-append test xs ys) ∙ all)

pub none_two : {A : Type 0} (test : A → Bool) (xs ys : List A) → list_any test (xs ++ ys) ≡ false → (list_any test xs ≡ false) × (list_any test ys ≡ false)
none_two test xs ys none = or_false (list_any test xs) (list_any test ys) (sym (list_any-append test xs ys) ∙ none)

-- Lists made of items.

pub any_flat : {A B : Type 0} (test : B → Bool) (f : A → List B) (xs : List A) → list_any test (flat_map f xs) ≡ list_any (λ x. list_any test (f x)) xs
any_flat test f [] = refl
any_flat test f (x ∷ xs) = list_any-append test (f x) (flat_map f xs) ∙ ap (λ (b : Bool). list_any test (f x) || b) (any_flat test f xs)

pub all_flat : {A B : Type 0} (test : B → Bool) (f : A → List B) (xs : List A) → list_all test (flat_map f xs) ≡ list_all (λ x. list_all test (f x)) xs
all_flat test f [] = refl
all_flat test f (x ∷ xs) = list_all-append test (f x) (flat_map f xs) ∙ ap (λ (b : Bool). list_all test (f x) && b) (all_flat test f xs)

-- What holds of every item.

pub record There {A : Type 0} (P : A → Type 0) (test : A → Bool) : Type 0 where
  pub item : A
  pub holds : P item
  pub passes : test item ≡ true

pub there : {A : Type 0} (P : A → Type 0) (test : A → Bool) (xs : List A) → AllByRecursion P xs → list_any test xs ≡ true → There P test
there P test [] all any = absurd cc
there P test (x ∷ xs) all any =
    by_test (There P test) (test x) (λ here. record { item = x; holds = all.0; passes = here })
    (λ absent. there P test xs all.1 (sym (ap (λ (b : Bool). b || list_any test xs) absent) ∙ any))

-- The first item that passes.

-- whether there is one; and where it is seen as another

pub found_any : {A : Type 0} (test : A → Bool) (xs : List A) → is_some (find test xs) ≡ list_any test xs
found_any test [] = refl
found_any test (x ∷ xs) = by (test x) (found_any test xs)
  where
    by : (b : Bool) → is_some (find test xs) ≡ list_any test xs → is_some (cond b (Some x) (find test xs)) ≡ (b || list_any test xs)
    by true rest = refl
    by false rest = rest

pub some_of : {A B : Type 0} (f : A → B) (found : Option A) → is_some found ≡ is_some (option_map f found)
some_of f (Some item) = refl
some_of f None = refl

some_same : {A : Type 0} (x y : A) → ◌≡◌ {A = Option A} (Some x) (Some y) → x ≡ y
some_same x y is = cc

-- it passes, and what holds of it holds of one item, or not of all
pub record Found {A : Type 0} (test : A → Bool) (xs : List A) (x : A) : Type 0 where
  pub passes : test x ≡ true
  pub any : (other : A → Bool) → other x ≡ true → list_any other xs ≡ true
  pub none : (other : A → Bool) → other x ≡ false → list_all other xs ≡ false

pub found_there : {A : Type 0} (test : A → Bool) (xs : List A) (x : A) → find test xs ≡ Some x → Found test xs x
found_there test [] x is = absurd cc
found_there test (y ∷ ys) x is =
    by_test (Found test (y ∷ ys) x) (test y)
    (λ here. subst (Found test (y ∷ ys)) (some_same y x (sym (ap (λ (b : Bool). if b then Some y else find test ys) here) ∙ is)) (record {
      passes = here;
      any = λ other so. ap (λ (b : Bool). b || list_any other ys) so;
      none = λ other no. ap (λ (b : Bool). b && list_all other ys) no;
    }))
    (λ absent.
    let rest = found_there test ys x (sym (ap (λ (b : Bool). if b then Some y else find test ys) absent) ∙ is) in
    record {
      passes = rest.passes;
      any = λ other so. or_right (other y) (list_any other ys) (rest.any other so);
      none = λ other no. and_no (other y) (list_all other ys) (rest.none other no);
    })

some_none : {A : Type 0} (x : A) → ◌≡◌ {A = Option A} (Some x) None → ⊥
some_none x is = cc is

pub none_found : {A : Type 0} (test : A → Bool) (xs : List A) → find test xs ≡ None → list_any test xs ≡ false
none_found test [] is = refl
none_found test (y ∷ ys) is =
    by_test (list_any test (y ∷ ys) ≡ false) (test y)
    (λ here. absurd (some_none y (sym (ap (λ (b : Bool). if b then Some y else find test ys) here) ∙ is)))
    (λ absent. ap (λ (b : Bool). b || list_any test ys) absent ∙ none_found test ys (sym (ap (λ (b : Bool). if b then Some y else find test ys) absent) ∙ is))

-- in the first of two lists, or in the second where the first has none
pub found_left : {A : Type 0} (test : A → Bool) (xs ys : List A) (x : A) → Some x ≡ find test xs → Some x ≡ find test (xs ++ ys)
found_left test xs ys x is = ap (λ (o : Option _). option_or o (find test ys)) is ∙ sym (find-append test xs ys)

pub found_right : {A : Type 0} (test : A → Bool) (xs ys : List A) (o : Option A) → None ≡ find test xs → o ≡ find test ys → o ≡ find test (xs ++ ys)
found_right test xs ys o none is = is ∙ ap (λ (first : Option _). option_or first (find test ys)) none ∙ sym (find-append test xs ys)
