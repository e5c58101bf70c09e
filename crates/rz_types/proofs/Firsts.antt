-- The first fault of a list, in parts.
use Rattle.std.proofs.Common.{◌≡◌, Bool, ◌&&◌, List, [], ◌∷◌, ◌++◌, map, Option, Some, None, refl, sym, ap, ◌∙◌}
use Rattle.std.specs.List.{list_all}
use Rattle.std.proofs.lemmas.List.Folds.{list_all-append}
use Rattle.rz_core.specs.Lists.{first_of, or_else}

pub or_assoc : {F : Type 0} (a b c : Option F) → or_else a (or_else b c) ≡ or_else (or_else a b) c
or_assoc None b c = refl
or_assoc (Some x) b c = refl

pub or_none : {F : Type 0} (a : Option F) → or_else a None ≡ a
or_none None = refl
or_none (Some x) = refl

-- the first fault that a rule finds in two lists
pub first_append : {A F : Type 0} (rule : A → Option F) (xs ys : List A)
    → first_of (map rule (xs ++ ys)) ≡ or_else (first_of (map rule xs)) (first_of (map rule ys))
first_append rule [] ys = refl
first_append rule (x ∷ xs) ys = ap (or_else (rule x)) (first_append rule xs ys) ∙ or_assoc (rule x) (first_of (map rule xs)) (first_of (map rule ys))

-- where it finds none in the first list, it is that of the second
pub first_behind : {A F : Type 0} (rule : A → Option F) (xs ys : List A) → first_of (map rule xs) ≡ None
    → first_of (map rule ys) ≡ first_of (map rule (xs ++ ys))
first_behind rule xs ys none = sym (first_append rule xs ys ∙ ap (λ (o : Option _). or_else o (first_of (map rule ys))) none)

-- a test holds for two lists where it does for each
pub all_append : {A : Type 0} (test : A → Bool) (xs ys : List A) → list_all test (xs ++ ys) ≡ (list_all test xs && list_all test ys)
all_append test xs ys = list_all-append test xs ys
