-- Where the first one with a key stands.
use Rattle.std.proofs.Common.{◌≡◌, ℕ, suc, ◌+◌, ◌<◌, ◌≤◌, ◌==◌, ◌&&◌, ◌||◌, Bool, true, false, cond, filter, List, [], ◌∷◌, ◌++◌, length, map, Option, Some, None, slice_get, refl, sym, ap, subst, ◌∙◌, arith}
use Rattle.std.specs.Prelude.{if◌then◌else◌, option_map}
use Rattle.std.specs.Option.{is_some, unwrap_or}
use Rattle.std.specs.List.{list_any, position_from}
use Rattle.std.proofs.lemmas.Bool.{eqb-true}
use Rattle.std.proofs.lemmas.Option.{same_Some, slice_get_past}
use Rattle.rz_core.proofs.Tests.{both, same_sym}
use Rattle.rz_core.specs.Lists.{or_else}
use Rattle.rz_core.specs.declared.resource.Resource.{Resource}
use Rattle.rz_catalog_text.specs.declared.entry.Entry.{Entry}
use Rattle.rz_catalog.specs.Apply.{first_such, is_entry_for, text_for}
use Rattle.rz_catalog.specs.Held.{entry_key, key_eq, leaf_eq, leaf_key, resource_key}
use Rattle.rz_catalog.specs.Stock.{Stocked}

module _ {K : Type 0} (test : K → Bool) where
  -- of one key more
  pub position_more : (i : ℕ) (keys : List K) (key : K) → position_from test i (keys ++ key ∷ []) ≡ or_else (position_from test i keys) (cond (test key) (Some (i + length keys)) None)
  position_more i [] key = let n : i ≡ i + 0 = omega arith in ap (λ (m : ℕ). cond (test key) (Some m) None) n
  position_more i (k ∷ keys) key = by (position_more (i + 1) keys key) (test k)
    where
      n : i + 1 + length keys ≡ i + suc (length keys)
      n = omega arith

      by : position_from test (i + 1) (keys ++ key ∷ []) ≡ or_else (position_from test (i + 1) keys) (cond (test key) (Some (i + 1 + length keys)) None)
          → (b : Bool) → cond b (Some i) (position_from test (i + 1) (keys ++ key ∷ [])) ≡ or_else (cond b (Some i) (position_from test (i + 1) keys)) (cond (test key) (Some (i + suc (length keys))) None)
      by later true = refl
      by later false = later ∙ ap (λ (m : ℕ). or_else (position_from test (i + 1) keys) (cond (test key) (Some m) None)) n

  -- a key that passes stands somewhere
  pub any_position : (i : ℕ) (keys : List K) → is_some (position_from test i keys) ≡ list_any test keys
  any_position i [] = refl
  any_position i (k ∷ keys) = by (any_position (i + 1) keys) (test k)
    where
      by : is_some (position_from test (i + 1) keys) ≡ list_any test keys → (b : Bool) → is_some (cond b (Some i) (position_from test (i + 1) keys)) ≡ (b || list_any test keys)
      by later true = refl
      by later false = later

-- the first item whose key passes stands at the position of the first such key
module _ {A K : Type 0} (test : K → Bool) (key : A → K) where
  abbrev First : List A → Option A
  First xs = first_such (λ x. test (key x)) xs

  abbrev FirstAt : ℕ → List A → Option ℕ → Type 0
  FirstAt i xs None = First xs ≡ None
  FirstAt i xs (Some k) = (j : ℕ) × (k ≡ i + j) × (j < length xs) × (First xs ≡ slice_get xs j)

  first_at : (i : ℕ) (xs : List A) → FirstAt i xs (position_from test i (map key xs))
  first_at i [] = refl
  first_at i (x ∷ xs) = by (first_at (i + 1) xs) (test (key x)) refl
    where
      later : (o : Option ℕ) → test (key x) ≡ false → FirstAt (i + 1) xs o → FirstAt i (x ∷ xs) o
      later None fails is = ap (λ (b : Bool). if b then Some x else First xs) fails ∙ is
      later (Some k) fails (j, at, within, is) =
          (suc j, omega (arith, at), omega (arith, within), ap (λ (b : Bool). if b then Some x else First xs) fails ∙ is)

      by : FirstAt (i + 1) xs (position_from test (i + 1) (map key xs)) → (b : Bool) → test (key x) ≡ b
          → FirstAt i (x ∷ xs) (cond b (Some i) (position_from test (i + 1) (map key xs)))
      by more true passes = (0, omega arith, omega arith, ap (λ (b : Bool). if b then Some x else First xs) passes)
      by more false fails = later (position_from test (i + 1) (map key xs)) fails more

  pub at_some : (xs : List A) (k : ℕ) → position_from test 0 (map key xs) ≡ Some k → (k < length xs) × (First xs ≡ slice_get xs k)
  at_some xs k is = by (subst (FirstAt 0 xs) is (first_at 0 xs))
    where
      by : FirstAt 0 xs (Some k) → (k < length xs) × (First xs ≡ slice_get xs k)
      by (j, at, within, found) = let same : j ≡ k = omega (arith, at) in (omega (arith, at, within), found ∙ ap (slice_get xs) same)

  pub at_none : (xs : List A) → position_from test 0 (map key xs) ≡ None → First xs ≡ None
  at_none xs is = subst (FirstAt 0 xs) is (first_at 0 xs)

-- of those that pass one test, the first that passes another one
pub such_filter : {A : Type 0} (one other : A → Bool) (xs : List A) → first_such other (filter one xs) ≡ first_such (λ x. one x && other x) xs
such_filter one other [] = refl
such_filter one other (x ∷ xs) = by (such_filter one other xs) (one x)
  where
    by : first_such other (filter one xs) ≡ first_such (λ y. one y && other y) xs → (b : Bool)
        → first_such other (cond b (x ∷ filter one xs) (filter one xs)) ≡ (if b && other x then Some x else first_such (λ y. one y && other y) xs)
    by later true = ap (λ (o : Option _). if other x then Some x else o) later
    by later false = later

-- the first of the items that a filter keeps
pub filter_some : {A : Type 0} (test : A → Bool) (xs : List A) (y : A) → first_such test xs ≡ Some y → (others : List A) × (filter test xs ≡ y ∷ others)
filter_some test [] y is = absurd cc
filter_some test (x ∷ xs) y is = by (filter_some test xs y) (test x) is
  where
    by : (first_such test xs ≡ Some y → (others : List _) × (filter test xs ≡ y ∷ others)) → (b : Bool) → (if b then Some x else first_such test xs) ≡ Some y
        → (others : List _) × (cond b (x ∷ filter test xs) (filter test xs) ≡ y ∷ others)
    by later true same = (filter test xs, ap (λ z. z ∷ filter test xs) (same_Some x y same))
    by later false same = later same

pub filter_none : {A : Type 0} (test : A → Bool) (xs : List A) → first_such test xs ≡ None → filter test xs ≡ []
filter_none test [] is = refl
filter_none test (x ∷ xs) is = by (filter_none test xs) (test x) is
  where
    by : (first_such test xs ≡ None → filter test xs ≡ []) → (b : Bool) → (if b then Some x else first_such test xs) ≡ None → cond b (x ∷ filter test xs) (filter test xs) ≡ []
    by later true same = absurd cc
    by later false same = later same

-- Keys.

pub same_key : (one other : ℕ × ℕ) → key_eq one other ≡ true → one ≡ other
same_key one other is =
    let are = both (one.0 == other.0) (one.1 == other.1) is in
    λ i. (eqb-true one.0 other.0 are.0 i, eqb-true one.1 other.1 are.1 i)

pub flip_key : (one other : ℕ × ℕ) → key_eq one other ≡ key_eq other one
flip_key one other = λ i. same_sym one.0 other.0 i && same_sym one.1 other.1 i

pub same_leaf : (one other : ℕ × ℕ × ℕ) → leaf_eq one other ≡ true → one ≡ other
same_leaf one other is =
    let are = both ((one.0 == other.0) && (one.1 == other.1)) (one.2 == other.2) is in
    let front = both (one.0 == other.0) (one.1 == other.1) are.0 in
    λ i. (eqb-true one.0 other.0 front.0 i, eqb-true one.1 other.1 front.1 i, eqb-true one.2 other.2 are.1 i)

pub flip_leaf : (one other : ℕ × ℕ × ℕ) → leaf_eq one other ≡ leaf_eq other one
flip_leaf one other = λ i. (same_sym one.0 other.0 i && same_sym one.1 other.1 i) && same_sym one.2 other.2 i

-- a key that is noted after others, where one of them is the same or none is
module _ {K : Type 0} (eq : K → K → Bool) (same : (one other : K) → eq one other ≡ true → one ≡ other) (flip : (one other : K) → eq one other ≡ eq other one)
    (keys : List K) (key k : K) where
  abbrev At : K → Option ℕ
  At x = position_from (eq x) 0 keys

  pub stays_first : is_some (At key) ≡ true → position_from (eq k) 0 (keys ++ key ∷ []) ≡ At k
  stays_first there = position_more (eq k) 0 keys key ∙ by (eq k key) refl
    where
      some : (o : Option ℕ) (other : Option ℕ) → is_some o ≡ true → or_else o other ≡ o
      some (Some n) other is = refl
      some None other is = cc

      none : (o : Option ℕ) → or_else o None ≡ o
      none (Some n) = refl
      none None = refl

      by : (b : Bool) → eq k key ≡ b → or_else (At k) (cond b (Some (0 + length keys)) None) ≡ At k
      by true is = some (At k) (Some (0 + length keys)) (ap (λ (x : K). is_some (At x)) (same k key is) ∙ there)
      by false is = none (At k)

  pub goes_first : (position : ℕ) → length keys ≡ position → is_some (At key) ≡ false → position_from (eq k) 0 (keys ++ key ∷ []) ≡ cond (eq key k) (Some position) (At k)
  goes_first position size absent = position_more (eq k) 0 keys key ∙ by (eq k key) refl ∙ ap (λ (b : Bool). cond b (Some position) (At k)) (flip k key)
    where
      none : (o : Option ℕ) → is_some o ≡ false → o ≡ None
      none (Some n) is = cc
      none None is = refl

      n : 0 + length keys ≡ position
      n = omega (arith, size)

      without : (o : Option ℕ) → or_else o None ≡ o
      without (Some m) = refl
      without None = refl

      by : (b : Bool) → eq k key ≡ b → or_else (At k) (cond b (Some (0 + length keys)) None) ≡ cond b (Some position) (At k)
      by true is = ap (λ (o : Option ℕ). or_else o (Some (0 + length keys))) (none (At k) (ap (λ (x : K). is_some (At x)) (same k key is) ∙ absent)) ∙ ap (λ (m : ℕ). Some m) n
      by false is = without (At k)

-- Resources and entries.

module _ (stock : List Stocked) (e : Entry) where
  abbrev for_entry : Option Stocked
  for_entry = first_such (λ s. is_entry_for s.resource e) stock

  flipped : first_such (λ s. key_eq (entry_key e) (resource_key s.resource)) stock ≡ for_entry
  flipped = λ i. first_such (λ s. flip_key (entry_key e) (resource_key s.resource) i) stock

  pub stock_some : (k : ℕ) → position_from (key_eq (entry_key e)) 0 (map (λ s. resource_key s.resource) stock) ≡ Some k → for_entry ≡ slice_get stock k
  stock_some k is = sym flipped ∙ (at_some (key_eq (entry_key e)) (λ s. resource_key s.resource) stock k is).1

  pub stock_none : position_from (key_eq (entry_key e)) 0 (map (λ s. resource_key s.resource) stock) ≡ None → for_entry ≡ None
  stock_none is = sym flipped ∙ at_none (key_eq (entry_key e)) (λ s. resource_key s.resource) stock is

module _ (r : Resource) (key : ℕ × ℕ × ℕ) (is_key : resource_key r ≡ (key.0, key.1)) (entries : List Entry) where
  leaf_found : first_such (λ e. key.2 == e.leaf) (filter (is_entry_for r) entries) ≡ first_such (λ e. leaf_eq key (leaf_key e)) entries
  leaf_found = such_filter (is_entry_for r) (λ e. key.2 == e.leaf) entries ∙ (λ i. first_such (λ e. key_eq (is_key i) (entry_key e) && (key.2 == e.leaf)) entries)

  pub leaf_some : (k : ℕ) (e : Entry) (own : List ℕ) → position_from (leaf_eq key) 0 (map leaf_key entries) ≡ Some k → slice_get entries k ≡ Some e → e.text ≡ text_for (filter (is_entry_for r) entries) key.2 own
  leaf_some k e own is at = sym (ap (λ (o : Option Entry). unwrap_or (option_map (λ x. x.text) o) own) (leaf_found ∙ (at_some (leaf_eq key) leaf_key entries k is).1 ∙ at))

  pub leaf_none : (own : List ℕ) → position_from (leaf_eq key) 0 (map leaf_key entries) ≡ None → own ≡ text_for (filter (is_entry_for r) entries) key.2 own
  leaf_none own is = sym (ap (λ (o : Option Entry). unwrap_or (option_map (λ x. x.text) o) own) (leaf_found ∙ at_none (leaf_eq key) leaf_key entries is))

module _ (r : Resource) (entries : List Entry) where
  abbrev Place : Option ℕ
  Place = position_from (key_eq (resource_key r)) 0 (map entry_key entries)

  pub entry_within : (k : ℕ) → Place ≡ Some k → k < length entries
  entry_within k is = (at_some (key_eq (resource_key r)) entry_key entries k is).0

  pub entries_some : (k : ℕ) (e : Entry) → Place ≡ Some k → slice_get entries k ≡ Some e → (others : List Entry) × (filter (is_entry_for r) entries ≡ e ∷ others)
  entries_some k e is at = filter_some (is_entry_for r) entries e ((at_some (key_eq (resource_key r)) entry_key entries k is).1 ∙ at)

  pub entries_none : Place ≡ None → filter (is_entry_for r) entries ≡ []
  entries_none is = filter_none (is_entry_for r) entries (at_none (key_eq (resource_key r)) entry_key entries is)

pub none_past : {X : Type 0} (xs : List X) (i : ℕ) → length xs ≤ i → None ≡ slice_get xs i
none_past xs i past = sym (slice_get_past xs i past)
