-- The body of items that are kept keeps the rules of declarations.
use Rattle.std.proofs.Common.{◌≡◌, ℕ, zero, suc, ◌+◌, ◌^◌, ◌≤◌, ◌<◌, Bool, true, false, List, [], ◌∷◌, ◌++◌, length, Option, Some, None, refl, sym, ap, subst, ◌∙◌, arith, append_assoc}
use Rattle.std.specs.Prelude.{◌&&◌, ◌||◌, not}
use Rattle.std.specs.List.{AllByRecursion}
use Rattle.std.specs.Str.{str_eq_ignore_ascii_case}
use Rattle.rz_core.specs.declared.resource.Word as names
use Rattle.rz_types_fields.specs.Field.{field_and, takes_value, Array, PlainBody, PlainField}
use Rattle.rz_types.specs.Rules.{broken_at, has_values, unknown_at, BreaksNone, KeepAll}
use Rattle.rz_types.specs.Walk.{all_fields, and_names, around_names, at_field, is_among, names_in, names_of, no_names, own_names, steps, steps_within, walk, within, Own, Step}
use Rattle.rz_tmpl.specs.Entry.{takes}
use Rattle.rz_tmpl.specs.Items.{count, has_value, is_kept, list, may_start, none, one, waits, waits_behind, Items}
use Rattle.rz_tmpl.specs.declared.entry.CountForm.{CountForm}
use Rattle.rz_tmpl.specs.declared.entry.CountForm.TheVariants.{LessOne, Rows}
use Rattle.rz_tmpl.specs.declared.entry.ListForm.{ListForm}
use Rattle.rz_tmpl.specs.declared.entry.ListForm.TheVariants.{Counted, Uncounted}
use Rattle.rz_tmpl.specs.declared.entry.Plain.{Plain}
use Rattle.rz_tmpl.specs.declared.entry.Plain.TheVariants.{Aligned, Character, Number, Pascal, Rectangle, Rest, TypeName, ZeroEnded, Zeros}
use Rattle.rz_tmpl.specs.declared.entry.Size.TheVariants.{Byte, Long, Word}
use Rattle.rz_tmpl.specs.Body.{body_from, count_field, field_of, list_name, lists_of, next_named}
use Rattle.rz_tmpl.proofs.Names.{apart, itself}

-- Bools.

pub no : {P : Type 0} → false ≡ true → P
no is = absurd cc

pub no_more : {P : Type 0} → true ≡ false → P
no_more is = absurd cc

pub back : (a b : Bool) → (a && b) ≡ true → b ≡ true
back true b is = is
back false b is = no is

pub front : (a b : Bool) → (a && b) ≡ true → a ≡ true
front true b is = refl
front false b is = no is

pub un_not : (a : Bool) → not a ≡ true → a ≡ false
un_not true is = no is
un_not false is = refl

pub or_left : (a b : Bool) → a ≡ true → (a || b) ≡ true
or_left true b is = refl
or_left false b is = no is

pub or_right : (a b : Bool) → b ≡ true → (a || b) ≡ true
or_right true b is = refl
or_right false b is = is

or_either : (a b c : Bool) → (a || b) ≡ true → (b ≡ true → c ≡ true) → (a || c) ≡ true
or_either true b c is so = refl
or_either false b c is so = so is

pub record Listed (left : ℕ) (form : ListForm) (w : Bool) (inner rest : Items) : Type 0 where
  pub starts : may_start form w ≡ true
  pub inside : is_kept left false inner ≡ true
  pub ends : waits false inner ≡ false
  pub value : has_value inner ≡ true
  pub others : is_kept (suc left) (waits_behind form w) rest ≡ true

pub listed : (left : ℕ) (form : ListForm) (w : Bool) (inner rest : Items) → is_kept (suc left) w (list form inner rest) ≡ true → Listed left form w inner rest
listed left form w inner rest is =
    let first = back (may_start form w) _ is in
    let two = back (is_kept left false inner) _ first in
    let three = back (not (waits false inner)) _ two in
    record {
      starts = front (may_start form w) _ is;
      inside = front (is_kept left false inner) _ first;
      ends = un_not (waits false inner) (front (not (waits false inner)) _ two);
      value = front (has_value inner) _ three;
      others = back (has_value inner) _ three;
    }

-- Names of arrays.

abbrev Below : ℕ → List names.Word → Type 0
Below k words = AllByRecursion (λ word. (n : ℕ) × (n < k) × (word ≡ list_name n)) words

both_below : (k : ℕ) (a b : List names.Word) → Below k a → Below k b → Below k (a ++ b)
both_below k [] b low more = more
both_below k (n ∷ ns) b low more = (low.0, both_below k ns b low.1 more)

more_below : (k m : ℕ) (a : List names.Word) → k ≤ m → Below k a → Below m a
more_below k m [] less is = tt
more_below k m (n ∷ ns) less is = let low = is.0.1 in ((is.0.0, omega arith, is.0.2), more_below k m ns less is.1)

not_among : (k : ℕ) (a : List names.Word) → k < 2 ^ 64 → Below k a → is_among (list_name k).bytes a ≡ false
not_among k [] small is = refl
not_among k (word ∷ words) small is =
    ap (λ (w : names.Word). str_eq_ignore_ascii_case w.bytes (list_name k).bytes || is_among (list_name k).bytes words) is.0.2
    ∙ ap (λ (t : Bool). t || is_among (list_name k).bytes words) (apart is.0.0 k is.0.1 small) ∙ not_among k words small is.1

among_left : (key : List ℕ) (a b : List names.Word) → is_among key a ≡ true → is_among key (a ++ b) ≡ true
among_left key [] b is = no is
among_left key (n ∷ ns) b is = or_either (str_eq_ignore_ascii_case n.bytes key) (is_among key ns) (is_among key (ns ++ b)) is (λ so. among_left key ns b so)

among_right : (key : List ℕ) (a b : List names.Word) → is_among key b ≡ true → is_among key (a ++ b) ≡ true
among_right key [] b is = is
among_right key (n ∷ ns) b is = or_right (str_eq_ignore_ascii_case n.bytes key) _ (among_right key ns b is)

names_append : (a b : List PlainField) → (names_in (a ++ b)).arrays ≡ (names_in a).arrays ++ (names_in b).arrays
names_append [] b = refl
names_append (f ∷ fs) b = ap (λ (l : List names.Word). (own_names f).arrays ++ l) (names_append fs b) ∙ sym (append_assoc (own_names f).arrays (names_in fs).arrays (names_in b).arrays)

none_more : (a : List names.Word) → a ++ [] ≡ a
none_more [] = refl
none_more (x ∷ xs) = ap (λ (l : List names.Word). x ∷ l) (none_more xs)

-- Steps.

abbrev Kept : Step → Type 0
Kept step = (broken_at step ≡ None) × (unknown_at step ≡ None)

abbrev Keeps : List Step → Type 0
Keeps path = AllByRecursion Kept path

keep_both : (a b : List Step) → Keeps a → Keeps b → Keeps (a ++ b)
keep_both [] b this more = more
keep_both (s ∷ ss) b this more = (this.0, keep_both ss b this.1 more)

-- a field that gives no name, and has no fields within it
record IsSimple (field : PlainField) : Type 0 where
  pub own : own_names field ≡ no_names
  pub inner : within field ≡ []
  pub no_steps : (position : ℕ) (before scope : Own) → steps_within position before scope field ≡ []

simple : (plain : Plain) → IsSimple (field_of plain)
simple (Number size hex) = record { own = refl; inner = refl; no_steps = λ position before scope. refl }
simple Character = record { own = refl; inner = refl; no_steps = λ position before scope. refl }
simple TypeName = record { own = refl; inner = refl; no_steps = λ position before scope. refl }
simple Rectangle = record { own = refl; inner = refl; no_steps = λ position before scope. refl }
simple (Zeros size) = record { own = refl; inner = refl; no_steps = λ position before scope. refl }
simple (Aligned size) = record { own = refl; inner = refl; no_steps = λ position before scope. refl }
simple Pascal = record { own = refl; inner = refl; no_steps = λ position before scope. refl }
simple ZeroEnded = record { own = refl; inner = refl; no_steps = λ position before scope. refl }
simple Rest = record { own = refl; inner = refl; no_steps = λ position before scope. refl }

simple_count : (less : CountForm) (k : ℕ) → IsSimple (count_field less k)
simple_count less k = record { own = refl; inner = refl; no_steps = λ position before scope. refl }

-- such a field changes no names
names_behind : (field : PlainField) → IsSimple field → (names_in (field ∷ within field)).arrays ≡ []
names_behind field is = ap (λ (own : Own). own.arrays ++ (names_in (within field)).arrays) is.own ∙ ap (λ (l : List PlainField). (names_in l).arrays) is.inner

names_front : (field : PlainField) (fields : PlainBody) → IsSimple field → (names_of (field_and field fields)).arrays ≡ (names_of fields).arrays
names_front field fields is = ap (λ (own : Own). own.arrays ++ (names_of fields).arrays) is.own

all_front : (field : PlainField) (fields : PlainBody) → IsSimple field → (names_in (all_fields (field_and field fields))).arrays ≡ (names_in (all_fields fields)).arrays
all_front field fields is =
    ap (λ (own : Own). own.arrays ++ (names_in (within field ++ all_fields fields)).arrays) is.own ∙ ap (λ (l : List PlainField). (names_in (l ++ all_fields fields)).arrays) is.inner

simple_step : (field : PlainField) (others : PlainBody) (position : ℕ) (before scope : Own) → IsSimple field → Kept (at_field position before scope field)
    → ((later : ℕ) (names : Own) → names.arrays ≡ before.arrays → Keeps (steps later names scope others)) → Keeps (steps position before scope (field_and field others))
simple_step field others position before scope is kept rest = (
  kept,
  keep_both (steps_within position before scope field) _ (subst Keeps (sym (is.no_steps position before scope)) tt)
      (rest (position + 1 + length (within field)) (and_names before (names_in (field ∷ within field))) (ap (λ (l : List names.Word). before.arrays ++ l) (names_behind field is) ∙ none_more before.arrays)),
)

kept_plain : (plain : Plain) (position : ℕ) (before scope : Own) → Kept (at_field position before scope (field_of plain))
kept_plain (Number Byte hex) position before scope = (refl, refl)
kept_plain (Number Word hex) position before scope = (refl, refl)
kept_plain (Number Long hex) position before scope = (refl, refl)
kept_plain Character position before scope = (refl, refl)
kept_plain TypeName position before scope = (refl, refl)
kept_plain Rectangle position before scope = (refl, refl)
kept_plain (Zeros size) position before scope = (refl, refl)
kept_plain (Aligned size) position before scope = (refl, refl)
kept_plain Pascal position before scope = (refl, refl)
kept_plain ZeroEnded position before scope = (refl, refl)
kept_plain Rest position before scope = (refl, refl)

-- a count whose list is in scope
kept_count : (less : CountForm) (k position : ℕ) (before scope : Own) → is_among (list_name k).bytes scope.arrays ≡ true → Kept (at_field position before scope (count_field less k))
kept_count LessOne k position before scope is = (refl, rw is refl)
kept_count Rows k position before scope is = (refl, rw is refl)

-- Bodies.

below_all : (k : ℕ) (items : Items) → Below (k + lists_of items) (names_in (all_fields (body_from k items))).arrays
below_all k none = tt
below_all k (one plain rest) = subst (λ (l : List names.Word). Below (k + lists_of rest) l) (sym (all_front (field_of plain) (body_from k rest) (simple plain))) (below_all k rest)
below_all k (count less rest) = below_all k rest
below_all k (list Counted inner rest) = (
  (k, omega arith, refl),
  subst (λ (l : List names.Word). Below (k + (1 + (lists_of inner + lists_of rest))) l) (sym (names_append (all_fields (body_from (k + 1) inner)) (all_fields (body_from (k + 1 + lists_of inner) rest))))
      (both_below _ _ _
      (more_below (k + 1 + lists_of inner) (k + (1 + (lists_of inner + lists_of rest))) _ (omega arith) (below_all (k + 1) inner))
      (more_below (k + 1 + lists_of inner + lists_of rest) (k + (1 + (lists_of inner + lists_of rest))) _ (omega arith) (below_all (k + 1 + lists_of inner) rest))),
)
below_all k (list Uncounted inner rest) =
    subst (λ (l : List names.Word). Below (k + (lists_of inner + lists_of rest)) l) (sym (names_append (all_fields (body_from k inner)) (all_fields (body_from (k + lists_of inner) rest))))
    (both_below _ _ _
    (more_below (k + lists_of inner) (k + (lists_of inner + lists_of rest)) _ (omega arith) (below_all k inner))
    (more_below (k + lists_of inner + lists_of rest) (k + (lists_of inner + lists_of rest)) _ (omega arith) (below_all (k + lists_of inner) rest)))

next_among : (left k : ℕ) (items : Items) → is_kept left true items ≡ true → waits true items ≡ false
    → is_among (list_name (next_named k items)).bytes (names_of (body_from k items)).arrays ≡ true
next_among left k none kept ends = no_more ends
next_among left k (one plain rest) kept ends =
    ap (is_among (list_name (next_named k rest)).bytes) (names_front (field_of plain) (body_from k rest) (simple plain)) ∙ next_among left k rest kept ends
next_among left k (count less rest) kept ends = no kept
next_among zero k (list form inner rest) kept ends = no kept
next_among (suc left) k (list Counted inner rest) kept ends = or_left _ _ (itself k)
next_among (suc left) k (list Uncounted inner rest) kept ends = next_among (suc left) (k + lists_of inner) rest (listed left Uncounted true inner rest kept).others ends

pub takes_is : (plain : Plain) → takes_value (field_of plain) ≡ takes plain
takes_is (Number size hex) = refl
takes_is Character = refl
takes_is TypeName = refl
takes_is Rectangle = refl
takes_is (Zeros size) = refl
takes_is (Aligned size) = refl
takes_is Pascal = refl
takes_is ZeroEnded = refl
takes_is Rest = refl

pub values_are : (k : ℕ) (items : Items) → has_value items ≡ true → has_values (body_from k items) ≡ true
values_are k none value = no value
values_are k (one plain rest) value =
    ap (λ (t : Bool). t || has_values (body_from k rest)) (takes_is plain) ∙ or_either (takes plain) (has_value rest) (has_values (body_from k rest)) value (values_are k rest)
values_are k (count less rest) value = values_are k rest value
values_are k (list Counted inner rest) value = refl
values_are k (list Uncounted inner rest) value = refl

abbrev Covers : List names.Word → List names.Word → Type 0
Covers scope words = (key : List ℕ) → is_among key words ≡ true → is_among key scope ≡ true

kept_array : (name : Option names.Word) (row : PlainBody) (position : ℕ) (before scope : Own) → has_values row ≡ true → Rattle.rz_types.specs.Rules.array_twice position before.arrays name ≡ None
    → Kept (at_field position before scope (Array name None row))
kept_array name row position before scope values once = (rw (once, values) refl, refl)

keep : (left k : ℕ) (w : Bool) (items : Items) (position : ℕ) (before scope : Own) → is_kept left w items ≡ true → waits w items ≡ false → k + lists_of items ≤ 2 ^ 64
    → Below k before.arrays → Covers scope.arrays (names_of (body_from k items)).arrays → Keeps (steps position before scope (body_from k items))
keep left k w none position before scope kept ends few below covers = tt
keep left k w (one plain rest) position before scope kept ends few below covers =
    simple_step (field_of plain) (body_from k rest) position before scope (simple plain) (kept_plain plain position before scope)
    (λ later words same. keep left k w rest later words scope kept ends few (subst (Below k) (sym same) below)
    (λ key is. covers key (ap (is_among key) (names_front (field_of plain) (body_from k rest) (simple plain)) ∙ is)))
keep left k true (count less rest) position before scope kept ends few below covers = no kept
keep left k false (count less rest) position before scope kept ends few below covers =
    simple_step (count_field less (next_named k rest)) (body_from k rest) position before scope (simple_count less (next_named k rest))
    (kept_count less (next_named k rest) position before scope (covers (list_name (next_named k rest)).bytes (next_among left k rest kept ends)))
    (λ later words same. keep left k true rest later words scope kept ends few (subst (Below k) (sym same) below) covers)
keep zero k w (list form inner rest) position before scope kept ends few below covers = no kept
keep (suc left) k w (list Counted inner rest) position before scope kept ends few below covers =
    let is = listed left Counted w inner rest kept in
    let row = body_from (k + 1) inner in
    let array = Array (Some (list_name k)) None row in (
      kept_array (Some (list_name k)) row position before scope (values_are (k + 1) inner is.value) (rw (not_among k before.arrays (omega arith) below) refl),
      keep_both _ _
          (keep left (k + 1) false inner (position + 1) (and_names before (own_names array)) (and_names (and_names scope (around_names (Some (list_name k)))) (names_of row)) is.inside is.ends (omega arith)
          (both_below (k + 1) before.arrays (list_name k ∷ []) (more_below k (k + 1) before.arrays (omega arith) below) ((k, omega arith, refl), tt))
          (λ key so. among_right key (scope.arrays ++ []) (names_of row).arrays so))
          (keep (suc left) (k + 1 + lists_of inner) false rest (position + 1 + length (all_fields row)) (and_names before (names_in (array ∷ all_fields row))) scope is.others ends (omega arith)
          (both_below _ before.arrays _ (more_below k (k + 1 + lists_of inner) before.arrays (omega arith) below) ((k, omega arith, refl), below_all (k + 1) inner))
          (λ key so. covers key (or_right (str_eq_ignore_ascii_case (list_name k).bytes key) _ so))),
    )
keep (suc left) k w (list Uncounted inner rest) position before scope kept ends few below covers =
    let is = listed left Uncounted w inner rest kept in
    let row = body_from k inner in
    let array = Array None None row in (
      kept_array None row position before scope (values_are k inner is.value) refl,
      keep_both _ _
          (keep left k false inner (position + 1) (and_names before (own_names array)) (and_names (and_names scope (around_names None)) (names_of row)) is.inside is.ends (omega arith)
          (both_below k before.arrays [] below tt)
          (λ key so. among_right key (scope.arrays ++ []) (names_of row).arrays so))
          (keep (suc left) (k + lists_of inner) w rest (position + 1 + length (all_fields row)) (and_names before (names_in (array ∷ all_fields row))) scope is.others ends (omega arith)
          (both_below _ before.arrays _ (more_below k (k + lists_of inner) before.arrays (omega arith) below) (below_all k inner)) covers),
    )

first_kept : (path : List Step) → Keeps path → KeepAll broken_at path
first_kept [] keeps = tt
first_kept (step ∷ path) keeps = (keeps.0.0, first_kept path keeps.1)

then_kept : (path : List Step) → Keeps path → KeepAll unknown_at path
then_kept [] keeps = tt
then_kept (step ∷ path) keeps = (keeps.0.1, then_kept path keeps.1)

pub breaks_none : (items : Items) → is_kept 60 false items ≡ true → waits false items ≡ false → 1 + lists_of items ≤ 2 ^ 64 → BreaksNone (body_from 1 items)
breaks_none items kept ends few =
    let keeps = keep 60 1 false items 0 no_names (names_of (body_from 1 items)) kept ends few tt (λ key is. is) in
    (first_kept (walk (body_from 1 items)) keeps, then_kept (walk (body_from 1 items)) keeps)
