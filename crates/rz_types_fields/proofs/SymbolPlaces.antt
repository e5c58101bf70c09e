-- Symbols by the position of the first of each name and of each number that one gives, with one symbol more.
use Rattle.std.proofs.Common.{◌≡◌, ℕ, suc, ◌+◌, ◌==◌, ℤ, Bool, true, false, ◌&&◌, cond, not, List, [], ◌∷◌, ◌++◌, length, Option, Some, None, Vec, refl, sym, ap, subst, ◌∙◌, arith}
use Rattle.std.specs.Prelude.{if◌then◌else◌, bytes_eq, nat_eq, option_and_then, option_map, slice_get}
use Rattle.std.specs.Cmp.Lexicographic.{bytes_decides, nat_list_eq_equiv}
use Rattle.std.specs.HashMap.{get_by, HashMap, UpdatesBy}
use Rattle.std.specs.List.{position_from}
use Rattle.std.specs.Map.{lookup, AreApart, IsKeyTest, KeepsOthers}
use Rattle.std.specs.Option.{is_some}
use Rattle.std.specs.Str.{str_eq_ignore_ascii_case, str_to_ascii_lowercase}
use Rattle.std.proofs.lemmas.Bool.{eqb-true}
use Rattle.rz_core.proofs.Folds.{own_name, same_lower}
use Rattle.rz_core.specs.Lists.{or_else}
use Rattle.rz_expr.specs.Value.{reduced}
use Rattle.rz_types_fields.specs.Stored.{stored_number}
use Rattle.rz_types_fields.specs.Symbols.{gives, is_low, is_stored, symbol_for, AreFirsts, ArePlaces}
use Rattle.rz_types_fields.specs.Value.{symbol_value}
use Rattle.rz_types_fields.specs.declared.field.Symbol.{Symbol}

-- Options.

or_none : {A : Type 0} (o : Option A) → or_else o None ≡ o
or_none None = refl
or_none (Some x) = refl

some_first : {A : Type 0} (o other : Option A) → is_some o ≡ true → or_else o other ≡ o
some_first None other is = absurd cc
some_first (Some x) other is = refl

none_is : {A : Type 0} (o : Option A) → is_some o ≡ false → o ≡ None
none_is None is = refl
none_is (Some x) is = absurd cc

-- The first that passes, by its position.

module _ {A : Type 0} (test : A → Bool) where
  abbrev first : List A → Option A
  first [] = None
  first (x ∷ xs) = if test x then Some x else first xs

  further : (i : ℕ) (xs : List A) → position_from test (i + 1) xs ≡ option_map suc (position_from test i xs)
  further i [] = refl
  further i (x ∷ xs) = by (further (i + 1) xs) (test x)
    where
      by : position_from test (i + 1 + 1) xs ≡ option_map suc (position_from test (i + 1) xs) → (b : Bool)
          → cond b (Some (i + 1)) (position_from test (i + 1 + 1) xs) ≡ option_map suc (cond b (Some i) (position_from test (i + 1) xs))
      by more true = let n : i + 1 ≡ suc i = omega arith in ap (λ (m : ℕ). Some m) n
      by more false = more

  at_first : (xs : List A) → option_and_then (slice_get xs) (position_from test 0 xs) ≡ first xs
  at_first [] = refl
  at_first (x ∷ xs) = by (at_first xs) (test x)
    where
      behind : (o : Option ℕ) → option_and_then (slice_get (x ∷ xs)) (option_map suc o) ≡ option_and_then (slice_get xs) o
      behind None = refl
      behind (Some p) = refl

      by : option_and_then (slice_get xs) (position_from test 0 xs) ≡ first xs → (b : Bool)
          → option_and_then (slice_get (x ∷ xs)) (cond b (Some 0) (position_from test 1 xs)) ≡ (if b then Some x else first xs)
      by later true = refl
      by later false = ap (option_and_then (slice_get (x ∷ xs))) (further 0 xs) ∙ behind (position_from test 0 xs) ∙ later

  -- one item more
  position_more : (i : ℕ) (xs : List A) (x : A) → position_from test i (xs ++ x ∷ []) ≡ or_else (position_from test i xs) (cond (test x) (Some (i + length xs)) None)
  position_more i [] x = let n : i ≡ i + 0 = omega arith in ap (λ (m : ℕ). cond (test x) (Some m) None) n
  position_more i (y ∷ xs) x = by (position_more (i + 1) xs x) (test y)
    where
      n : i + 1 + length xs ≡ i + suc (length xs)
      n = omega arith

      by : position_from test (i + 1) (xs ++ x ∷ []) ≡ or_else (position_from test (i + 1) xs) (cond (test x) (Some (i + 1 + length xs)) None)
          → (b : Bool) → cond b (Some i) (position_from test (i + 1) (xs ++ x ∷ [])) ≡ or_else (cond b (Some i) (position_from test (i + 1) xs)) (cond (test x) (Some (i + suc (length xs))) None)
      by later true = refl
      by later false = later ∙ ap (λ (m : ℕ). or_else (position_from test (i + 1) xs) (cond (test x) (Some m) None)) n

module _ {A : Type 0} (one other : A → Bool) where
  -- where one that passes a test passes another too
  some_too : ((x : A) → one x ≡ true → other x ≡ true) → (i : ℕ) (xs : List A) → is_some (position_from one i xs) ≡ true → is_some (position_from other i xs) ≡ true
  some_too so i [] is = absurd cc
  some_too so i (x ∷ xs) is = by (some_too so (i + 1) xs) (one x) refl is
    where
      taken : other x ≡ true → is_some (cond (other x) (Some i) (position_from other (i + 1) xs)) ≡ true
      taken h = ap (λ (b : Bool). is_some (cond b (Some i) (position_from other (i + 1) xs))) h

      or_later : is_some (position_from other (i + 1) xs) ≡ true → (b : Bool) → is_some (cond b (Some i) (position_from other (i + 1) xs)) ≡ true
      or_later h true = refl
      or_later h false = h

      by : (is_some (position_from one (i + 1) xs) ≡ true → is_some (position_from other (i + 1) xs) ≡ true) → (b : Bool) → one x ≡ b
          → is_some (cond b (Some i) (position_from one (i + 1) xs)) ≡ true → is_some (cond (other x) (Some i) (position_from other (i + 1) xs)) ≡ true
      by later true h is = taken (so x h)
      by later false h is = or_later (later is) (other x)

-- two tests that differ only where a third passes, which none does
position_but : {A : Type 0} (third one other : A → Bool) → ((x : A) → third x ≡ false → one x ≡ other x) → (i j : ℕ) (xs : List A) → is_some (position_from third i xs) ≡ false
    → position_from one j xs ≡ position_from other j xs
position_but third one other same i j [] none = refl
position_but third one other same i j (x ∷ xs) none =
    let each = parts (third x) (position_from third (i + 1) xs) none in
    (λ k. cond (same x each.0 k) (Some j) (position_but third one other same (i + 1) (j + 1) xs each.1 k))
  where
    parts : (b : Bool) (o : Option ℕ) → is_some (cond b (Some i) o) ≡ false → (b ≡ false) × (is_some o ≡ false)
    parts true o none = absurd cc
    parts false o none = (refl, none)

-- What is found.

first_value : (name : List ℕ) (symbols : List Symbol) → option_map (λ (s : Symbol). s.value) (first (is_low (str_to_ascii_lowercase name)) symbols) ≡ symbol_value symbols name
first_value name [] = refl
first_value name (s ∷ symbols) = by (first_value name symbols) (is_low (str_to_ascii_lowercase name) s)
  where
    by : option_map (λ (s : Symbol). s.value) (first (is_low (str_to_ascii_lowercase name)) symbols) ≡ symbol_value symbols name → (b : Bool)
        → option_map (λ (s : Symbol). s.value) (if b then Some s else first (is_low (str_to_ascii_lowercase name)) symbols) ≡ (if b then Some s.value else symbol_value symbols name)
    by later true = refl
    by later false = later

pub found_value : (symbols : List Symbol) (name : List ℕ)
    → option_map (λ (s : Symbol). s.value) (option_and_then (slice_get symbols) (position_from (is_low (str_to_ascii_lowercase name)) 0 symbols)) ≡ symbol_value symbols name
found_value symbols name = ap (option_map (λ (s : Symbol). s.value)) (at_first (is_low (str_to_ascii_lowercase name)) symbols) ∙ first_value name symbols

first_name : (all : List Symbol) (width number : ℕ) (symbols : List Symbol) → option_map (λ (s : Symbol). s.name) (first (gives all width number) symbols) ≡ symbol_for all width number symbols
first_name all width number [] = refl
first_name all width number (s ∷ symbols) = by (first_name all width number symbols) (gives all width number s)
  where
    by : option_map (λ (s : Symbol). s.name) (first (gives all width number) symbols) ≡ symbol_for all width number symbols → (b : Bool)
        → option_map (λ (s : Symbol). s.name) (if b then Some s else first (gives all width number) symbols) ≡ (if b then Some s.name else symbol_for all width number symbols)
    by later true = refl
    by later false = later

pub found_name : (all : List Symbol) (width number : ℕ) (symbols : List Symbol)
    → option_map (λ (s : Symbol). s.name) (option_and_then (slice_get symbols) (position_from (gives all width number) 0 symbols)) ≡ symbol_for all width number symbols
found_name all width number symbols = ap (option_map (λ (s : Symbol). s.name)) (at_first (gives all width number) symbols) ∙ first_name all width number symbols

-- One symbol more.

-- the value of a name by that of the same name in lower case
same_value : (one other : List ℕ) → str_to_ascii_lowercase one ≡ str_to_ascii_lowercase other → (symbols : List Symbol) → symbol_value symbols one ≡ symbol_value symbols other
same_value one other same [] = refl
same_value one other same (s ∷ symbols) =
    (λ i. if bytes_eq (str_to_ascii_lowercase s.name.bytes) (same i) then Some s.value else same_value one other same symbols i)

value_more : (before : List Symbol) (s : Symbol) (name : List ℕ) → symbol_value (before ++ s ∷ []) name ≡ or_else (symbol_value before name) (symbol_value (s ∷ []) name)
value_more [] s name = refl
value_more (t ∷ before) s name = by (value_more before s name) (str_eq_ignore_ascii_case t.name.bytes name)
  where
    by : symbol_value (before ++ s ∷ []) name ≡ or_else (symbol_value before name) (symbol_value (s ∷ []) name) → (b : Bool) → (if b then Some t.value else symbol_value (before ++ s ∷ []) name) ≡ or_else (if b then Some t.value else symbol_value before name) (symbol_value (s ∷ []) name)
    by later true = refl
    by later false = later

-- a name has a value where a symbol has it
any_value : (i : ℕ) (symbols : List Symbol) (name : List ℕ) → is_some (position_from (is_low (str_to_ascii_lowercase name)) i symbols) ≡ is_some (symbol_value symbols name)
any_value i [] name = refl
any_value i (s ∷ symbols) name = by (any_value (i + 1) symbols name) (is_low (str_to_ascii_lowercase name) s)
  where
    by : is_some (position_from (is_low (str_to_ascii_lowercase name)) (i + 1) symbols) ≡ is_some (symbol_value symbols name) → (b : Bool)
        → is_some (cond b (Some i) (position_from (is_low (str_to_ascii_lowercase name)) (i + 1) symbols)) ≡ is_some (if b then Some s.value else symbol_value symbols name)
    by later true = refl
    by later false = later

module _ (before : List Symbol) (s : Symbol) where
  abbrev pub low : List ℕ
  low = str_to_ascii_lowercase s.name.bytes

  -- whether one before it has its name
  abbrev pub has_name : Bool
  has_name = is_some (position_from (is_low low) 0 before)

  abbrev pub more : List Symbol
  more = before ++ s ∷ []

  low_is : (other : List ℕ) → bytes_eq low other ≡ true → low ≡ other
  low_is other is = (bytes_decides low other).0 is

  abbrev Firsts : List ℕ → Option ℕ
  Firsts other = position_from (is_low other) 0 before

  -- the first of each name
  pub firsts_same : has_name ≡ true → (other : List ℕ) → position_from (is_low other) 0 more ≡ Firsts other
  firsts_same there other = position_more (is_low other) 0 before s ∙ by (bytes_eq low other) refl
    where
      by : (b : Bool) → bytes_eq low other ≡ b → or_else (Firsts other) (cond b (Some (0 + length before)) None) ≡ Firsts other
      by true is = some_first (Firsts other) (Some (0 + length before)) (ap (λ (l : List ℕ). is_some (Firsts l)) (sym (low_is other is)) ∙ there)
      by false is = or_none (Firsts other)

  pub firsts_more : has_name ≡ false → (position : ℕ) → length before ≡ position → (other : List ℕ) → position_from (is_low other) 0 more ≡ cond (bytes_eq low other) (Some position) (Firsts other)
  firsts_more none position size other = position_more (is_low other) 0 before s ∙ by (bytes_eq low other) refl
    where
      n : 0 + length before ≡ position
      n = omega (arith, size)

      by : (b : Bool) → bytes_eq low other ≡ b → or_else (Firsts other) (cond b (Some (0 + length before)) None) ≡ cond b (Some position) (Firsts other)
      by true is =
          ap (λ (o : Option ℕ). or_else o (Some (0 + length before))) (none_is (Firsts other) (ap (λ (l : List ℕ). is_some (Firsts l)) (sym (low_is other is)) ∙ none))
          ∙ ap (λ (m : ℕ). Some m) n
      by false is = or_none (Firsts other)

  -- the first that gives each number
  module _ (width : ℕ) where
    abbrev Places : ℕ → Option ℕ
    Places number = position_from (gives before width number) 0 before

    -- a symbol whose name one before it has gives what that one gives
    values_same : has_name ≡ true → (name : List ℕ) → symbol_value more name ≡ symbol_value before name
    values_same there name = value_more before s name ∙ by (str_eq_ignore_ascii_case s.name.bytes name) refl
      where
        by : (b : Bool) → str_eq_ignore_ascii_case s.name.bytes name ≡ b → or_else (symbol_value before name) (if b then Some s.value else None) ≡ symbol_value before name
        by true is =
            some_first (symbol_value before name) (Some s.value)
            (ap is_some (sym (same_value s.name.bytes name ((same_lower s.name.bytes name).0 is) before)) ∙ sym (any_value 0 before s.name.bytes) ∙ there)
        by false is = or_none (symbol_value before name)

    pub places_same : has_name ≡ true → (number : ℕ) → position_from (gives more width number) 0 more ≡ Places number
    places_same there number =
        (λ i. position_from (λ (t : Symbol). is_stored width number (values_same there t.name.bytes i)) 0 more)
        ∙ position_more (gives before width number) 0 before s
        ∙ by (gives before width number s) refl
      where
        same : (t : Symbol) → is_low low t ≡ true → gives before width number s ≡ true → gives before width number t ≡ true
        same t is so =
            ap (is_stored width number) (same_value t.name.bytes s.name.bytes ((bytes_decides (str_to_ascii_lowercase t.name.bytes) low).0 is) before) ∙ so

        by : (b : Bool) → gives before width number s ≡ b → or_else (Places number) (cond b (Some (0 + length before)) None) ≡ Places number
        by true is = some_first (Places number) (Some (0 + length before)) (some_too (is_low low) (gives before width number) (λ t h. same t h is) 0 before there)
        by false is = or_none (Places number)

    -- any other gives its own value
    values_other : (t : Symbol) → is_low low t ≡ false → symbol_value more t.name.bytes ≡ symbol_value before t.name.bytes
    values_other t apart =
        value_more before s t.name.bytes
        ∙ ap (λ (b : Bool). or_else (symbol_value before t.name.bytes) (if b then Some s.value else None)) (nat_list_eq_equiv.symm low (str_to_ascii_lowercase t.name.bytes) ∙ apart)
        ∙ or_none (symbol_value before t.name.bytes)

    own_value : has_name ≡ false → symbol_value more s.name.bytes ≡ Some s.value
    own_value none =
        value_more before s s.name.bytes
        ∙ ap (λ (o : Option ℤ). or_else o (symbol_value (s ∷ []) s.name.bytes)) (none_is (symbol_value before s.name.bytes) (sym (any_value 0 before s.name.bytes) ∙ none))
        ∙ ap (λ (b : Bool). if b then Some s.value else None) (own_name s.name.bytes)

    pub places_more : has_name ≡ false → (position : ℕ) → length before ≡ position → (number : ℕ)
        → position_from (gives more width number) 0 more ≡ or_else (Places number) (cond (stored_number width (reduced s.value) == number) (Some position) None)
    places_more none position size number =
        position_more (gives more width number) 0 before s
        ∙ (λ i. or_else (same i) (cond (is_stored width number (own_value none i)) (Some (n i)) None))
      where
        n : 0 + length before ≡ position
        n = omega (arith, size)

        same : position_from (gives more width number) 0 before ≡ Places number
        same = position_but (is_low low) (gives more width number) (gives before width number) (λ t apart. ap (is_stored width number) (values_other t apart)) 0 0 before none

-- What maps have after a position is noted.

pub noted_new : (number other position : ℕ) (old : ℕ → Option ℕ) → is_some (old number) ≡ false
    → cond (nat_eq number other) (Some position) (old other) ≡ or_else (old other) (cond (nat_eq number other) (Some position) None)
noted_new number other position old none = by (nat_eq number other) refl
  where
    by : (b : Bool) → nat_eq number other ≡ b → cond b (Some position) (old other) ≡ or_else (old other) (cond b (Some position) None)
    by true is = sym (ap (λ (o : Option ℕ). or_else o (Some position)) (none_is (old other) (ap (λ (n : ℕ). is_some (old n)) (sym (eqb-true number other is)) ∙ none)))
    by false is = sym (or_none (old other))

pub noted_again : (number other position : ℕ) (old : ℕ → Option ℕ) → is_some (old number) ≡ true → old other ≡ or_else (old other) (cond (nat_eq number other) (Some position) None)
noted_again number other position old there = by (nat_eq number other) refl
  where
    by : (b : Bool) → nat_eq number other ≡ b → old other ≡ or_else (old other) (cond b (Some position) None)
    by true is = sym (some_first (old other) (Some position) (ap (λ (n : ℕ). is_some (old n)) (sym (eqb-true number other is)) ∙ there))
    by false is = sym (or_none (old other))

-- Bytes as keys: what a change at one key leaves at any bytes.

apart_from : (bs cs ks : List ℕ) → bytes_eq bs cs ≡ false → bytes_eq bs ks ≡ true → bytes_eq cs ks ≡ false
apart_from bs cs ks apart same = nat_list_eq_equiv.symm cs ks ∙ sym (nat_list_eq_equiv.congr bs ks cs same) ∙ apart

module _ {K X : Type 0} (eq : K → K → Bool) (test : K → Bool) where
  others_kept : (old new : List (K × X)) → KeepsOthers eq test old new → (other : K → Bool) → IsKeyTest eq other → AreApart test other → lookup other new ≡ lookup other old
  unfolding KeepsOthers
  others_kept old new kept = kept

pub bytes_put : {A X S : Type 0} (key : Vec ℕ A) (old new : HashMap (Vec ℕ A) X S) (put : Option X)
    → UpdatesBy (λ (x y : Vec ℕ A). bytes_eq x.items y.items) (λ (k : Vec ℕ A). bytes_eq key.items k.items) old new put → (low : List ℕ)
    → get_by (λ (k : Vec ℕ A). bytes_eq low k.items) new ≡ cond (bytes_eq key.items low) put (get_by (λ (k : Vec ℕ A). bytes_eq low k.items) old)
bytes_put {A} {X} {S} key old new put updates low = by (bytes_eq key.items low) refl
  where
    by : (b : Bool) → bytes_eq key.items low ≡ b → get_by (λ (k : Vec ℕ A). bytes_eq low k.items) new ≡ cond b put (get_by (λ (k : Vec ℕ A). bytes_eq low k.items) old)
    by true is = subst (λ (l : List ℕ). get_by (λ (k : Vec ℕ A). bytes_eq l k.items) new ≡ put) ((bytes_decides key.items low).0 is) updates.1
    by false is =
        others_kept (λ (x y : Vec ℕ A). bytes_eq x.items y.items) (λ (k : Vec ℕ A). bytes_eq key.items k.items) old.entries new.entries updates.3
        (λ (k : Vec ℕ A). bytes_eq low k.items) (λ x y. nat_list_eq_equiv.congr low x.items y.items) (λ k. apart_from key.items low k.items is)

-- What is noted of a symbol more.

module _ (before : List Symbol) (s : Symbol) (position : ℕ) (size : length before ≡ position) (old new : List ℕ → Option ℕ) (is_new : Bool) (key : List ℕ) (key_is : key ≡ low before s)
    (are : (l : List ℕ) → old l ≡ position_from (is_low l) 0 before) (new_is : is_new ≡ not (is_some (old key)))
    (put : (l : List ℕ) → new l ≡ cond (is_new && bytes_eq key l) (Some position) (old l)) where
  is_first : is_new ≡ not (has_name before s)
  is_first = new_is ∙ ap (λ (l : List ℕ). not (is_some (old l))) key_is ∙ ap (λ (o : Option ℕ). not (is_some o)) (are (low before s))

  has_so : (b has : Bool) → is_new ≡ b → is_new ≡ not has → has ≡ not b
  has_so true true is so = absurd cc
  has_so true false is so = refl
  has_so false true is so = refl
  has_so false false is so = absurd cc

  pub firsts_noted : (l : List ℕ) → new l ≡ position_from (is_low l) 0 (before ++ s ∷ [])
  firsts_noted l = put l ∙ by is_new refl
    where
      by : (b : Bool) → is_new ≡ b → cond (b && bytes_eq key l) (Some position) (old l) ≡ position_from (is_low l) 0 (before ++ s ∷ [])
      by true is =
          (λ i. cond (bytes_eq (key_is i) l) (Some position) (are l i)) ∙ sym (firsts_more before s (has_so true (has_name before s) is is_first) position size l)
      by false is = are l ∙ sym (firsts_same before s (has_so false (has_name before s) is is_first) l)

  module _ (width : ℕ) (places : ℕ → Option ℕ) (stand : (number : ℕ) → places number ≡ position_from (gives before width number) 0 before) where
    pub places_kept : is_new ≡ false → (number : ℕ) → places number ≡ position_from (gives (before ++ s ∷ []) width number) 0 (before ++ s ∷ [])
    places_kept is number = stand number ∙ sym (places_same before s width (has_so false (has_name before s) is is_first) number)

    pub places_noted : is_new ≡ true → (own : ℕ) → own ≡ stored_number width (reduced s.value) → (after : ℕ → Option ℕ)
        → ((number : ℕ) → after number ≡ or_else (places number) (cond (nat_eq own number) (Some position) None))
        → (number : ℕ) → after number ≡ position_from (gives (before ++ s ∷ []) width number) 0 (before ++ s ∷ [])
    places_noted is own own_is after noted number =
        noted number
        ∙ (λ i. or_else (stand number i) (cond (nat_eq (own_is i) number) (Some position) None))
        ∙ sym (places_more before s width (has_so true (has_name before s) is is_first) position size number)

-- nothing is noted of no symbols
pub no_index : {A S T : Type 0} (firsts : HashMap (Vec ℕ A) ℕ S) (places : HashMap ℕ ℕ T) (width : ℕ) → firsts.entries ≡ [] → places.entries ≡ []
    → AreFirsts [] firsts × ArePlaces [] width places
no_index {A} {S} {T} firsts places width none empty =
    ((λ low. ap (lookup (λ (k : Vec ℕ A). bytes_eq low k.items)) none), (λ number. ap (lookup (nat_eq number)) empty))
