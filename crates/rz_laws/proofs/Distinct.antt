-- Entries for different leaves, in any order.
use Rattle.std.proofs.Common.{◌≡◌, ℕ, ◌≤◌, Bool, true, false, List, [], ◌∷◌, ◌++◌, cond, Option, Some, None, refl, sym, ap, subst, ◌∙◌, arith, append_assoc}
use Rattle.std.specs.Prelude.{◌==◌, ◌&&◌, ◌||◌, if◌then◌else◌, IsPermutation}
use Rattle.std.specs.List.{count_by, list_any, AllByRecursion}
use Rattle.std.proofs.lemmas.Bool.{eq-eqb}
use Rattle.std.proofs.lemmas.List.Elements.{All-from_recursion, recursion_from_All}
use Rattle.std.proofs.lemmas.List.Folds.{list_any-append}
use Rattle.std.proofs.lemmas.List.Sorted.{list_any-IsPermutation, sum_by-IsPermutation, All-permutation}
use Rattle.std.proofs.lemmas.List.Sums.{sum_by-append, sum_by-cons}
use Rattle.rz_catalog.proofs.Lookups.{tested, LeavesDiffer}
use Rattle.rz_catalog.specs.Apply.{first_such, id_bits_of, same_leaf}
use Rattle.rz_catalog_text.specs.declared.entry.Entry.{Entry}
use Rattle.rz_core.proofs.Tests.{both, by_test, or_false, same_some, none_some, true_false}

or_true : (a b : Bool) → (a || (true || b)) ≡ true
or_true true b = refl
or_true false b = refl

-- what holds of each element holds of each in another order
pub all_permuted : {A : Type 0} (P : A → Type 0) (xs ys : List A) → IsPermutation xs ys → AllByRecursion P xs → AllByRecursion P ys
all_permuted P xs ys moved all = recursion_from_All P ys (All-permutation P xs ys moved (All-from_recursion P xs all))

all_so : {A : Type 0} (P Q : A → Type 0) → ((x : A) → P x → Q x) → (xs : List A) → AllByRecursion P xs → AllByRecursion Q xs
all_so P Q so [] all = tt
all_so P Q so (x ∷ xs) all = (so x all.0, all_so P Q so xs all.1)

-- Counts.

abbrev tally : Bool → ℕ
tally b = cond b 1 0

counted : (p : Entry → Bool) (xs : List Entry) → list_any p xs ≡ true → 1 ≤ count_by p xs
counted p [] some = absurd (true_false (sym some))
counted p (x ∷ xs) some =
    let more = sum_by-cons (λ y. cond (p y) 1 0) x xs in
    by_test (1 ≤ count_by p (x ∷ xs)) (p x)
    (λ is. let one : tally (p x) ≡ 1 = ap (λ (b : Bool). tally b) is in omega (arith, more, one))
    (λ other. let rest = counted p xs (sym (ap (λ (b : Bool). b || list_any p xs) other) ∙ some) in omega (arith, more, rest))

-- Leaves.

leaf_same : (e y : Entry) → same_leaf e y ≡ true → (b : Entry) → same_leaf e b ≡ same_leaf y b
leaf_same e y is b =
    let whole = both ((e.kind.code == y.kind.code) && (id_bits_of e == id_bits_of y)) (e.leaf == y.leaf) is in
    let key = both (e.kind.code == y.kind.code) (id_bits_of e == id_bits_of y) whole.0 in
    let code = tested e.kind.code y.kind.code key.0 in
    let bits = tested (id_bits_of e) (id_bits_of y) key.1 in
    let leaf = tested e.leaf y.leaf whole.1 in
    λ i. ((code i == b.kind.code) && (bits i == id_bits_of b)) && (leaf i == b.leaf)

leaf_self : (e : Entry) → same_leaf e e ≡ true
leaf_self e = λ i. (eq-eqb e.kind.code e.kind.code refl i && eq-eqb (id_bits_of e) (id_bits_of e) refl i) && eq-eqb e.leaf e.leaf refl i

-- entries for different leaves are one at most for each leaf, and none for a leaf that is before
at_most : (front xs : List Entry) → LeavesDiffer front xs → (e : Entry) → (count_by (same_leaf e) xs ≤ 1) × (list_any (same_leaf e) front ≡ true → count_by (same_leaf e) xs ≡ 0)
at_most front [] differ e = (omega arith, λ before. refl)
at_most front (y ∷ xs) differ e =
    let next = at_most (front ++ y ∷ []) xs differ.1 e in
    let step = sum_by-cons (λ b. cond (same_leaf e b) 1 0) y xs in
    by_test ((count_by (same_leaf e) (y ∷ xs) ≤ 1) × (list_any (same_leaf e) front ≡ true → count_by (same_leaf e) (y ∷ xs) ≡ 0)) (same_leaf e y)
    (λ is.
    let one : tally (same_leaf e y) ≡ 1 = ap (λ (b : Bool). tally b) is in
    let zero = next.1 (list_any-append (same_leaf e) front (y ∷ []) ∙ ap (λ (b : Bool). list_any (same_leaf e) front || (b || false)) is ∙ or_true (list_any (same_leaf e) front) false) in
    (omega (arith, step, one, zero), λ before. absurd (true_false (sym before ∙ (λ i. list_any (λ b. leaf_same e y is b i) front) ∙ differ.0))))
    (λ other.
    let none : tally (same_leaf e y) ≡ 0 = ap (λ (b : Bool). tally b) other in
    let few = next.0 in (
      omega (arith, step, none, few),
      λ before. let zero = next.1 (list_any-append (same_leaf e) front (y ∷ []) ∙ ap (λ (b : Bool). b || (same_leaf e y || false)) before) in omega (arith, step, none, zero),
    ))

differ_of : (front xs : List Entry) → ((e : Entry) → count_by (same_leaf e) (front ++ xs) ≤ 1) → LeavesDiffer front xs
differ_of front [] most = tt
differ_of front (y ∷ xs) most = (
  by_test (list_any (same_leaf y) front ≡ false) (list_any (same_leaf y) front)
      (λ is.
      let before = counted (same_leaf y) front is in
      let whole = sum_by-append (λ b. cond (same_leaf y b) 1 0) front (y ∷ xs) in
      let step = sum_by-cons (λ b. cond (same_leaf y b) 1 0) y xs in
      let one : tally (same_leaf y y) ≡ 1 = ap (λ (b : Bool). tally b) (leaf_self y) in
      let few = most y in
      absurd (omega (arith, before, whole, step, one, few)))
      (λ other. other),
  differ_of (front ++ y ∷ []) xs (λ e. subst (λ (l : List Entry). count_by (same_leaf e) l ≤ 1) (sym (append_assoc front (y ∷ []) xs)) (most e)),
)

pub permuted_differ : (xs ys : List Entry) → IsPermutation xs ys → LeavesDiffer [] xs → LeavesDiffer [] ys
permuted_differ xs ys moved differ =
    differ_of [] ys (λ e.
    let same = sum_by-IsPermutation (λ b. cond (same_leaf e b) 1 0) xs ys moved in
    let few = (at_most [] xs differ e).0 in
    omega (arith, same, few))

-- The first entry that passes a test, which no two entries pass that are for different leaves.

module _ (p : Entry → Bool) where
  found_any : (xs : List Entry) (x : Entry) → first_such p xs ≡ Some x → list_any p xs ≡ true
  found_any [] x is = absurd (none_some x is)
  found_any (y ∷ xs) x is =
      by_test (list_any p (y ∷ xs) ≡ true) (p y)
      (λ passes. ap (λ (b : Bool). b || list_any p xs) passes)
      (λ other. ap (λ (b : Bool). b || list_any p xs) other ∙ found_any xs x (sym (ap (λ (b : Bool). if b then Some y else first_such p xs) other) ∙ is))

  none_any : (xs : List Entry) → first_such p xs ≡ None → list_any p xs ≡ false
  none_any [] is = refl
  none_any (y ∷ xs) is =
      by_test (list_any p (y ∷ xs) ≡ false) (p y)
      (λ passes. absurd (none_some y (sym is ∙ ap (λ (b : Bool). if b then Some y else first_such p xs) passes)))
      (λ other. ap (λ (b : Bool). b || list_any p xs) other ∙ none_any xs (sym (ap (λ (b : Bool). if b then Some y else first_such p xs) other) ∙ is))

  first_none : (xs : List Entry) → list_any p xs ≡ false → first_such p xs ≡ None
  first_none [] none = refl
  first_none (y ∷ xs) none =
      let each = or_false (p y) (list_any p xs) none in ap (λ (b : Bool). if b then Some y else first_such p xs) each.0 ∙ first_none xs each.1

  first_by : (x : Entry) (ys : List Entry) → AllByRecursion (λ e. p e ≡ true → e ≡ x) ys → list_any p ys ≡ true → first_such p ys ≡ Some x
  first_by x [] all some = absurd (true_false (sym some))
  first_by x (y ∷ ys) all some =
      by_test (first_such p (y ∷ ys) ≡ Some x) (p y)
      (λ passes. ap (λ (b : Bool). if b then Some y else first_such p ys) passes ∙ ap (λ (z : Entry). Some z) (all.0 passes))
      (λ other.
      ap (λ (b : Bool). if b then Some y else first_such p ys) other
      ∙ first_by x ys all.1 (sym (ap (λ (b : Bool). b || list_any p ys) other) ∙ some))

  module _ (alike : (a b : Entry) → p a ≡ true → p b ≡ true → same_leaf b a ≡ true) where
    any_leaf : (e : Entry) → p e ≡ true → (front : List Entry) → list_any p front ≡ true → list_any (same_leaf e) front ≡ true
    any_leaf e is [] some = absurd (true_false (sym some))
    any_leaf e is (b ∷ front) some =
        by_test (list_any (same_leaf e) (b ∷ front) ≡ true) (p b)
        (λ passes. ap (λ (c : Bool). c || list_any (same_leaf e) front) (alike b e passes is))
        (λ other.
        ap (λ (c : Bool). same_leaf e b || c) (any_leaf e is front (sym (ap (λ (c : Bool). c || list_any p front) other) ∙ some))
        ∙ or_true (same_leaf e b) false)

    none_more : (front xs : List Entry) → list_any p front ≡ true → LeavesDiffer front xs → AllByRecursion (λ e. p e ≡ true → ⊥) xs
    none_more front [] some differ = tt
    none_more front (y ∷ xs) some differ = (
      λ passes. true_false (sym (any_leaf y passes front some) ∙ differ.0),
      none_more (front ++ y ∷ []) xs (list_any-append p front (y ∷ []) ∙ ap (λ (b : Bool). b || (p y || false)) some) differ.1,
    )

    found_all : (front xs : List Entry) → LeavesDiffer front xs → (x : Entry) → first_such p xs ≡ Some x → AllByRecursion (λ e. p e ≡ true → e ≡ x) xs
    found_all front [] differ x is = tt
    found_all front (y ∷ xs) differ x is =
        by_test (AllByRecursion (λ e. p e ≡ true → e ≡ x) (y ∷ xs)) (p y)
        (λ passes.
        let same : y ≡ x = same_some (first_such p (y ∷ xs)) y x (ap (λ (b : Bool). if b then Some y else first_such p xs) passes) is in
        let seen = list_any-append p front (y ∷ []) ∙ ap (λ (b : Bool). list_any p front || (b || false)) passes ∙ or_true (list_any p front) false in
        (λ again. same, all_so (λ e. p e ≡ true → ⊥) (λ e. p e ≡ true → e ≡ x) (λ e never yes. absurd (never yes)) xs (none_more (front ++ y ∷ []) xs seen differ.1)))
        (λ other. (
          λ passes. absurd (true_false (sym passes ∙ other)),
          found_all (front ++ y ∷ []) xs differ.1 x (sym (ap (λ (b : Bool). if b then Some y else first_such p xs) other) ∙ is),
        ))

    pub same_first : (xs ys : List Entry) → IsPermutation xs ys → LeavesDiffer [] xs → first_such p ys ≡ first_such p xs
    same_first xs ys moved differ = by (first_such p xs) refl
      where
        by : (found : Option Entry) → first_such p xs ≡ found → first_such p ys ≡ first_such p xs
        by None is = first_none ys (sym (list_any-IsPermutation p xs ys moved) ∙ none_any xs is) ∙ sym is
        by (Some x) is =
            first_by x ys (all_permuted (λ e. p e ≡ true → e ≡ x) xs ys moved (found_all [] xs differ x is)) (sym (list_any-IsPermutation p xs ys moved) ∙ found_any xs x is)
            ∙ sym is
