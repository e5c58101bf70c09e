-- Steps from one place to the next: the entries before it, and what the code keeps of it.
use Rattle.std.proofs.Common.{◌≡◌, ℕ, zero, suc, ◌<◌, ◌≤◌, Bool, true, false, List, [], ◌∷◌, ◌++◌, length, Some, None, refl, sym, ap, ◌∙◌, append_assoc, arith, subst}
use Rattle.std.specs.Prelude.{◌&&◌, ◌||◌, ◌==◌}
use Rattle.std.proofs.lemmas.Bool.Decides.{nat_tests}
use Rattle.rz_tmpl.specs.Cut.{entry_fault}
use Rattle.rz_tmpl.specs.Entry.{takes}
use Rattle.rz_tmpl.specs.Items.{at, count, entries_before, entries_of, has_value, innermost, inside, is_kept, is_place_kept, list, may_start, none, one, waiting_outside, waits, waits_behind, Items, Place}
use Rattle.rz_tmpl.specs.Bodies.{append, behind, fault_of, Shows}
use Rattle.rz_tmpl.specs.declared.entry.CountForm.{CountForm}
use Rattle.rz_tmpl.specs.declared.entry.Entry.{Entry}
use Rattle.rz_tmpl.specs.declared.entry.Entry.TheVariants.{Count, End, One, Start}
use Rattle.rz_tmpl.specs.declared.entry.ListForm.{ListForm}
use Rattle.rz_tmpl.specs.declared.entry.ListForm.TheVariants.{Counted, Uncounted}
use Rattle.rz_tmpl.specs.declared.entry.Plain.{Plain}
use Rattle.rz_tmpl.specs.declared.bodies.Bodies.{Bodies}
use Rattle.rz_tmpl.proofs.Faults.{behind_waits, four, place_fault, waits_append}
use Rattle.rz_tmpl.proofs.Places.{count_step, end_step, opened, plain_step, start_step, with}

pub some_same : {A : Type 0} (x y : A) → Some x ≡ Some y → x ≡ y
some_same x y is = cc

-- Places.

innermost_with : (p : Place) (items : Items) → innermost (with p items) ≡ append (innermost p) items
innermost_with (at more) items = refl
innermost_with (inside before form place) items = innermost_with place items

outside_with : (p : Place) (items : Items) → waiting_outside (with p items) ≡ waiting_outside p
outside_with (at more) items = refl
outside_with (inside before form place) items = ap (λ (l : List Bool). waits_behind form (waits false before) ∷ l) (outside_with place items)

innermost_opened : (p : Place) (form : ListForm) → innermost (opened p form) ≡ none
innermost_opened (at more) form = refl
innermost_opened (inside before other place) form = innermost_opened place form

outside_opened : (p : Place) (form : ListForm) → waiting_outside (opened p form) ≡ waiting_outside p ++ waits_behind form (waits false (innermost p)) ∷ []
outside_opened (at more) form = refl
outside_opened (inside before other place) form = ap (λ (l : List Bool). waits_behind other (waits false before) ∷ l) (outside_opened place form)

value_append : (a b : Items) → has_value (append a b) ≡ (has_value a || has_value b)
value_append none b = refl
value_append (one plain rest) b = ap (λ (t : Bool). takes plain || t) (value_append rest b) ∙ either (takes plain) (has_value rest) (has_value b)
  where
    either : (x y z : Bool) → (x || (y || z)) ≡ ((x || y) || z)
    either true y z = refl
    either false y z = refl
value_append (count less rest) b = value_append rest b
value_append (list form row rest) b = refl

or_false : (a : Bool) → (a || false) ≡ a
or_false true = refl
or_false false = refl

or_true : (a : Bool) → (a || true) ≡ true
or_true true = refl
or_true false = refl

-- a place in a list, as what stands before that list and what stands in it
record InList (place : Place) : Type 0 where
  pub outer : Place
  pub form : ListForm
  pub row : Items
  pub is : place ≡ with (opened outer form) row

in_list : (before : Items) (form : ListForm) (place : Place) → InList (inside before form place)
in_list before form (at items) = record { outer = at before; form = form; row = items; is = refl }
in_list before form (inside more other place) =
    let found = in_list more other place in
    record { outer = inside before form found.outer; form = found.form; row = found.row; is = ap (inside before form) found.is }

ended : (before : Items) (form : ListForm) (place : Place) → (found : InList (inside before form place))
    → behind (inside before form place) End ≡ Some (with found.outer (list found.form found.row none))
ended before form place found = ap (λ (p : Place). behind p End) found.is ∙ end_step found.outer found.form found.row

-- Entries.

entries_append : (a b : Items) → entries_of (append a b) ≡ entries_of a ++ entries_of b
entries_append none b = refl
entries_append (one plain rest) b = ap (λ (l : List Entry). One plain ∷ l) (entries_append rest b)
entries_append (count less rest) b = ap (λ (l : List Entry). Count less ∷ l) (entries_append rest b)
entries_append (list form row rest) b =
    ap (λ (l : List Entry). Start form ∷ (entries_of row ++ End ∷ l)) (entries_append rest b)
    ∙ ap (λ (l : List Entry). Start form ∷ l) (sym (append_assoc (entries_of row) (End ∷ entries_of rest) (entries_of b)))

entries_with : (p : Place) (items : Items) → entries_before (with p items) ≡ entries_before p ++ entries_of items
entries_with (at more) items = entries_append more items
entries_with (inside before form place) items =
    ap (λ (l : List Entry). entries_of before ++ Start form ∷ l) (entries_with place items)
    ∙ sym (append_assoc (entries_of before) (Start form ∷ entries_before place) (entries_of items))

entries_opened : (p : Place) (form : ListForm) → entries_before (opened p form) ≡ entries_before p ++ Start form ∷ []
entries_opened (at more) form = refl
entries_opened (inside before other place) form =
    ap (λ (l : List Entry). entries_of before ++ Start other ∷ l) (entries_opened place form)
    ∙ sym (append_assoc (entries_of before) (Start other ∷ entries_before place) (Start form ∷ []))

-- the entries before the place after an entry
pub one_more : (place : Place) (entry : Entry) (next : Place) → behind place entry ≡ Some next → entries_before next ≡ entries_before place ++ entry ∷ []
one_more place (One plain) next is = ap entries_before (sym (some_same _ _ (sym (plain_step place plain) ∙ is))) ∙ entries_with place (one plain none)
one_more place (Count less) next is = ap entries_before (sym (some_same _ _ (sym (count_step place less) ∙ is))) ∙ entries_with place (count less none)
one_more place (Start form) next is = ap entries_before (sym (some_same _ _ (sym (start_step place form) ∙ is))) ∙ entries_opened place form
one_more (at items) End next is = absurd cc
one_more (inside before form place) End next is =
    let found = in_list before form place in
    ap entries_before (sym (some_same _ _ (sym (ended before form place found) ∙ is)))
    ∙ entries_with found.outer (list found.form found.row none)
    ∙ sym
    (ap (λ (l : List Entry). l ++ End ∷ []) (ap entries_before found.is ∙ entries_with (opened found.outer found.form) found.row ∙ ap (λ (l : List Entry). l ++ entries_of found.row) (entries_opened found.outer found.form))
    ∙ append_assoc (entries_before found.outer ++ Start found.form ∷ []) (entries_of found.row) (End ∷ [])
    ∙ append_assoc (entries_before found.outer) (Start found.form ∷ []) (entries_of found.row ++ End ∷ []))

-- after an entry without a fault there is a place
pub place_behind : (full waiting valued : Bool) (place : Place) (entry : Entry) → entry_fault (four full (length (waiting_outside place) == 0) waiting valued) entry ≡ None
    → (next : Place) × (behind place entry ≡ Some next)
place_behind full waiting valued place (One plain) sound = (with place (one plain none), plain_step place plain)
place_behind full waiting valued place (Count less) sound = (with place (count less none), count_step place less)
place_behind full waiting valued place (Start form) sound = (opened place form, start_step place form)
place_behind full waiting valued (at items) End sound = absurd cc
place_behind full waiting valued (inside before form place) End sound =
    let found = in_list before form place in (with found.outer (list found.form found.row none), ended before form place found)

-- Faults.

same_suc : (n m : ℕ) → (suc n == suc m) ≡ (n == m)
same_suc n m = grind (arith, nat_tests)

pub not_none : (n : ℕ) → (suc n == 0) ≡ false
not_none n = grind (arith, nat_tests)

not_all : (n : ℕ) → (0 == suc n) ≡ false
not_all n = grind (arith, nat_tests)

and_false : (a : Bool) → (a && false) ≡ false
and_false true = refl
and_false false = refl

never : {P : Type 0} → false ≡ true → P
never is = absurd cc

back : (a b : Bool) → (a && b) ≡ true → b ≡ true
back true b is = is
back false b is = never is

-- the fault at a place that is kept, in the words of what is open there
pub fault_is : (left : ℕ) (outermost : Bool) (place : Place) (entry : Entry) → is_place_kept left place ≡ true
    → place_fault left outermost place entry
    ≡ entry_fault (four (length (waiting_outside place) == left) (outermost && (length (waiting_outside place) == 0)) (waits false (innermost place)) (has_value (innermost place))) entry
fault_is zero true (at items) entry kept = refl
fault_is zero false (at items) entry kept = refl
fault_is (suc left) true (at items) entry kept = ap (λ (full : Bool). entry_fault (four full true (waits false items) (has_value items)) entry) (sym (not_all left))
fault_is (suc left) false (at items) entry kept = ap (λ (full : Bool). entry_fault (four full false (waits false items) (has_value items)) entry) (sym (not_all left))
fault_is zero outermost (inside before form place) entry kept = never kept
fault_is (suc left) outermost (inside before form place) entry kept =
    let n = length (waiting_outside place) in
    fault_is left false place entry (back (may_start form (waits false before)) _ (back (is_kept (suc left) false before) _ kept))
    ∙ ap (λ (full : Bool). entry_fault (four full false (waits false (innermost place)) (has_value (innermost place))) entry) (sym (same_suc n left))
    ∙ ap (λ (outer : Bool). entry_fault (four (suc n == suc left) outer (waits false (innermost place)) (has_value (innermost place))) entry) (sym (ap (λ (t : Bool). outermost && t) (not_none n) ∙ and_false outermost))

-- no more lists are open than may be
pub few_open : (left : ℕ) (place : Place) → is_place_kept left place ≡ true → length (waiting_outside place) ≤ left
few_open left (at items) kept = omega arith
few_open zero (inside before form place) kept = never kept
few_open (suc left) (inside before form place) kept =
    omega (arith, few_open left place (back (may_start form (waits false before)) _ (back (is_kept (suc left) false before) _ kept)))

not_full : (full outermost waiting valued : Bool) (form : ListForm) → entry_fault (four full outermost waiting valued) (Start form) ≡ None → full ≡ false
not_full true outermost true valued Counted is = absurd cc
not_full true outermost false valued Counted is = absurd cc
not_full true outermost waiting valued Uncounted is = absurd cc
not_full false outermost waiting valued form is = refl

-- after a list that may begin there is room
pub has_room : (bodies : Bodies) (form : ListForm) → fault_of bodies (Start form) ≡ None → length bodies.outside.items ≤ 60 → length bodies.outside.items < 60
has_room bodies form sound few =
    let n = length bodies.outside.items in
    let other : (n == 60) ≡ false = not_full (n == 60) (n == 0) bodies.waiting bodies.valued form sound in grind (arith, nat_tests)

-- What is kept.

pub shows_one : (place : Place) (plain : Plain) (next : Place) (old new : Bodies) → Shows place old → behind place (One plain) ≡ Some next
    → new.waiting ≡ old.waiting → new.valued ≡ (old.valued || takes plain) → new.outside.items ≡ old.outside.items → Shows next new
shows_one place plain next old new shows is waiting valued outside =
    subst (λ (p : Place). Shows p new) (some_same _ _ (sym (plain_step place plain) ∙ is)) record {
      waiting = waiting ∙ shows.waiting ∙ sym (ap (waits false) (innermost_with place (one plain none)) ∙ waits_append false (innermost place) (one plain none));
      valued = valued ∙ ap (λ (t : Bool). t || takes plain) shows.valued
          ∙ sym (ap has_value (innermost_with place (one plain none)) ∙ value_append (innermost place) (one plain none) ∙ ap (λ (t : Bool). has_value (innermost place) || t) (or_false (takes plain)));
      outside = outside ∙ shows.outside ∙ sym (outside_with place (one plain none));
    }

pub shows_count : (place : Place) (less : CountForm) (next : Place) (old new : Bodies) → Shows place old → behind place (Count less) ≡ Some next
    → new.waiting ≡ true → new.valued ≡ old.valued → new.outside.items ≡ old.outside.items → Shows next new
shows_count place less next old new shows is waiting valued outside =
    subst (λ (p : Place). Shows p new) (some_same _ _ (sym (count_step place less) ∙ is)) record {
      waiting = waiting ∙ sym (ap (waits false) (innermost_with place (count less none)) ∙ waits_append false (innermost place) (count less none));
      valued = valued ∙ shows.valued
          ∙ sym (ap has_value (innermost_with place (count less none)) ∙ value_append (innermost place) (count less none) ∙ or_false (has_value (innermost place)));
      outside = outside ∙ shows.outside ∙ sym (outside_with place (count less none));
    }

pub shows_start : (place : Place) (form : ListForm) (next : Place) (old new : Bodies) → Shows place old → behind place (Start form) ≡ Some next
    → new.waiting ≡ false → new.valued ≡ false → new.outside.items ≡ old.outside.items ++ waits_behind form old.waiting ∷ [] → Shows next new
shows_start place form next old new shows is waiting valued outside =
    subst (λ (p : Place). Shows p new) (some_same _ _ (sym (start_step place form) ∙ is)) record {
      waiting = waiting ∙ sym (ap (waits false) (innermost_opened place form));
      valued = valued ∙ sym (ap has_value (innermost_opened place form));
      outside = outside ∙ ap (λ (l : List Bool). l ++ waits_behind form old.waiting ∷ []) shows.outside
          ∙ ap (λ (w : Bool). waiting_outside place ++ waits_behind form w ∷ []) shows.waiting ∙ sym (outside_opened place form);
    }

last_same : (xs ys : List Bool) (x y : Bool) → xs ++ x ∷ [] ≡ ys ++ y ∷ [] → (xs ≡ ys) × (x ≡ y)
last_same [] [] x y is = (refl, cc)
last_same [] (b ∷ []) x y is = absurd cc
last_same [] (b ∷ c ∷ ys) x y is = absurd cc
last_same (a ∷ []) [] x y is = absurd cc
last_same (a ∷ b ∷ xs) [] x y is = absurd cc
last_same (a ∷ xs) (b ∷ ys) x y is = let deep = last_same xs ys x y cc in let heads : a ≡ b = cc in (cc (heads, deep.0), deep.1)

pub shows_end : (place next : Place) (old new : Bodies) → Shows place old → behind place End ≡ Some next
    → (0 < length old.outside.items → old.outside.items ≡ new.outside.items ++ new.waiting ∷ []) → new.valued ≡ true → Shows next new
shows_end (at items) next old new shows is outside valued = absurd cc
shows_end (inside before form place) next old new shows is outside valued =
    let found = in_list before form place in
    let some : 0 < length old.outside.items = omega (arith, ap (length {A = Bool}) shows.outside) in
    let parts = last_same new.outside.items (waiting_outside found.outer) new.waiting (waits_behind found.form (waits false (innermost found.outer)))
    (sym (outside some) ∙ shows.outside ∙ ap waiting_outside found.is ∙ outside_with (opened found.outer found.form) found.row ∙ outside_opened found.outer found.form) in
    let more : Items = list found.form found.row none in
    subst (λ (p : Place). Shows p new) (some_same _ _ (sym (ended before form place found) ∙ is)) record {
      waiting = parts.1
          ∙ sym (ap (waits false) (innermost_with found.outer more) ∙ waits_append false (innermost found.outer) more ∙ behind_waits found.form (waits false (innermost found.outer)) found.row none);
      valued = valued ∙ sym (ap has_value (innermost_with found.outer more) ∙ value_append (innermost found.outer) more ∙ or_true (has_value (innermost found.outer)));
      outside = parts.0 ∙ sym (outside_with found.outer more);
    }
