-- The first name in an expression that isn't known is the one that a number can tell.
use Rattle.std.proofs.Common.{◌≡◌, ◌⊎◌, inl, inr, ℕ, List, [], ◌∷◌, Bool, true, false, ◌&&◌, ◌||◌, Option, Some, None, refl, sym, ap, subst, ◌∙◌}
use Rattle.std.specs.Prelude.{not, if◌then◌else◌, option_and_then, option_map}
use Rattle.std.specs.List.{find, list_all, list_any}
use Rattle.std.specs.Option.{is_none, is_some}
use Rattle.std.specs.Str.{str_to_ascii_lowercase}
use Rattle.std.proofs.lemmas.Bool.{and_parts}
use Rattle.rz_expr.specs.Environment.{count_key, count_of, place_in, place_key, place_of, row_in, rows_key, rows_of, Key}
use Rattle.rz_expr.specs.Mention.{alone, around, counted, fact, indexed, key_mentioned, mentions, with_bits, Mention}
use Rattle.rz_expr.specs.Term.{BitsAt, Constant, FactOf, Indexed, Named, OfOne, OfTwo, RowNumber, RowsOf, Term}
use Rattle.rz_types_fields.specs.Field.{PlainBody}
use Rattle.rz_expr.proofs.Items.{all_flat, all_more, and_yes, any_flat, any_more, found_there, none_any, passes, Found}
use Rattle.rz_types_fields.specs.Solve.{can_solve, has_key, is_same_key, keys_in, tellable, undoes_left, undoes_one, undoes_right}
use Rattle.rz_types_fields.specs.Passed.{declares, is_known, told_by, Names, Passed}
use Rattle.rz_types.specs.Notes.{also_told, first_unknown, may_be_told}
use Rattle.rz_types.specs.Readable.{all_known, is_known_there, is_number_read, tells, tells_one}
use Rattle.rz_types_fields.proofs.KeysIn.{key_passes}
use Rattle.rz_types_fields.proofs.SameNames.{key_is, key_itself}

-- Tests.

or_left : (a b : Bool) → a ≡ true → (a || b) ≡ true
or_left true b is = refl
or_left false b is = absurd cc

or_right : (a b : Bool) → b ≡ true → (a || b) ≡ true
or_right true b is = refl
or_right false b is = is

not_so : (holds : Bool) → not holds ≡ true → holds ≡ false
not_so true is = absurd cc
not_so false is = refl

-- what isn't known is the name itself
no_other : (same known : Bool) → known ≡ false → (same || known) ≡ true → same ≡ true
no_other true known none is = refl
no_other false known none is = absurd cc

both_ways : (a b : Bool) → (a ≡ true → b ≡ true) → (b ≡ true → a ≡ true) → a ≡ b
both_ways true b to from = sym (to refl)
both_ways false true to from = from refl
both_ways false false to from = refl

-- The first unknown name.

-- what isn't known has a key
keyed : (met known : Names) (one : Mention) → is_known_there met known one ≡ false → is_none (key_mentioned one) ≡ false
keyed met known (alone name) is = refl
keyed met known (indexed name) is = refl
keyed met known (counted name) is = refl
keyed met known (around name) is = absurd cc
keyed met known (with_bits name) is = refl
keyed met known (fact which) is = absurd cc

none_in : (met known : Names) (all : List Mention)
    → is_none (option_and_then key_mentioned (find (λ one. not (is_known_there met known one)) all)) ≡ list_all (is_known_there met known) all
none_in met known [] = refl
none_in met known (one ∷ others) = by (is_known_there met known one) refl (none_in met known others)
  where
    rest : Option Mention
    rest = find (λ other. not (is_known_there met known other)) others

    by : (test : Bool) → is_known_there met known one ≡ test → is_none (option_and_then key_mentioned rest) ≡ list_all (is_known_there met known) others
        → is_none (option_and_then key_mentioned (if not (is_known_there met known one) then Some one else rest))
        ≡ (is_known_there met known one && list_all (is_known_there met known) others)
    by true is so =
        ap (λ (b : Bool). is_none (option_and_then key_mentioned (if not b then Some one else rest))) is ∙ so
        ∙ ap (λ (b : Bool). b && list_all (is_known_there met known) others) (sym is)
    by false is so =
        ap (λ (b : Bool). is_none (option_and_then key_mentioned (if not b then Some one else rest))) is ∙ keyed met known one is
        ∙ ap (λ (b : Bool). b && list_all (is_known_there met known) others) (sym is)

none_unknown : (met known : Names) (term : Term) → is_none (first_unknown met known term) ≡ all_known met known term
none_unknown met known term = none_in met known (mentions term)

none_of : {A : Type 0} (f : A → Key) (o : Option A) → is_none o ≡ is_none (option_map f o)
none_of f None = refl
none_of f (Some x) = refl

flip : (none some : Bool) → some ≡ not none → none ≡ not some
flip true some is = ap not (sym is)
flip false some is = ap not (sym is)

-- of the names as the code has them
pub all_are : {A : Type 0} (f : A → Key) (o : Option A) (none : Bool) (met known : Names) (term : Term) → is_some o ≡ not none → option_map f o ≡ first_unknown met known term
    → none ≡ all_known met known term
all_are f o none met known term flipped is = flip none (is_some o) flipped ∙ none_of f o ∙ ap is_none is ∙ none_unknown met known term

-- Whatever more a number told, not all would be known: bits are asked for at a label that isn't met, or an array with an indexed
-- label hasn't ended.
abbrev with_key : Names → Key → Names
with_key known key other = is_same_key key other || known other

-- not the number of the rows of a label: what a number can tell never is
abbrev IsTold : Key → Type 0
IsTold key = (label : List ℕ) → is_same_key key (rows_of label) ≡ false

abbrev NeverKnown : (met known : Names) → Term → Type 0
NeverKnown met known term = (key : Key) → IsTold key → all_known met (with_key known key) term ≡ false

-- it stands there and isn't known, or not all would be known whatever was told
abbrev Missing : (met known : Names) → Term → Key → Type 0
Missing met known term key = ((has_key key term ≡ true) × (known key ≡ false)) ⊎ NeverKnown met known term

neither : (a b : Bool) → a ≡ false → b ≡ false → (a || b) ≡ false
neither true b one other = absurd cc
neither false b one other = other

and_no : (a b : Bool) → b ≡ false → (a && b) ≡ false
and_no true b is = is
and_no false b is = refl

no_and : (a b : Bool) → a ≡ false → (a && b) ≡ false
no_and true b is = absurd cc
no_and false b is = refl

one_key : (one other : Key) → ◌≡◌ {A = Option Key} (Some one) (Some other) → one ≡ other
one_key one other is = cc

module _ (met known : Names) (term : Term) (key : Key) where
  abbrev first : Mention → Bool
  first one = not (is_known_there met known one)

  -- what can be told stands in the expression
  stands : (one : Mention) → Found first (mentions term) one → list_any (is_same_key key) (tellable one) ≡ true → has_key key term ≡ true
  stands one it has = any_flat (is_same_key key) tellable (mentions term) ∙ it.any (λ other. list_any (is_same_key key) (tellable other)) has

  -- what can't be isn't known, whatever is told
  never : (one : Mention) → Found first (mentions term) one → ((other : Key) → IsTold other → is_known_there met (with_key known other) one ≡ false) → NeverKnown met known term
  never one it unknown other told = it.none (is_known_there met (with_key known other)) (unknown other told)

  one_missing : (one : Mention) → Found first (mentions term) one → key_mentioned one ≡ Some key → Missing met known term key
  one_missing (alone name) it is =
      let same = one_key (place_key name) key is in
      inl (
        stands (alone name) it (or_left (is_same_key key (place_key name)) false (ap (λ (k : Key). is_same_key key k) same ∙ key_itself key)),
        ap known (sym same) ∙ not_so (known (place_key name)) it.passes,
      )
  one_missing (indexed name) it is =
      inr (never (indexed name) it (λ other told. neither (is_same_key other (rows_key name)) (known (rows_key name)) (told (str_to_ascii_lowercase name)) (not_so (known (rows_key name)) it.passes)))
  one_missing (counted name) it is =
      let same = one_key (count_key name) key is in
      inl (
        stands (counted name) it (or_left (is_same_key key (count_key name)) false (ap (λ (k : Key). is_same_key key k) same ∙ key_itself key)),
        ap known (sym same) ∙ not_so (known (count_key name)) it.passes,
      )
  one_missing (around name) it is = absurd (let wrong = it.passes in cc)
  one_missing (with_bits name) it is = inr (never (with_bits name) it (λ other told. not_so (met (place_key name)) it.passes))
  one_missing (fact which) it is = absurd (let wrong = it.passes in cc)

  is_missing : first_unknown met known term ≡ Some key → Missing met known term key
  is_missing is = by (find first (mentions term)) refl is
    where
      by : (o : Option Mention) → find first (mentions term) ≡ o → option_and_then key_mentioned o ≡ Some key → Missing met known term key
      by None so is = absurd cc
      by (Some one) so is = one_missing one (found_there first (mentions term) one so) is

-- Where all names are known, each of them is.

-- what is met is known
abbrev AreWithin : (met known : Names) → Type 0
AreWithin met known = (key : Key) → met key ≡ true → known key ≡ true

one_known : (met known : Names) → AreWithin met known → (one : Mention) → is_known_there met known one ≡ true → list_all known (tellable one) ≡ true
one_known met known within (alone name) is = and_yes (known (place_key name)) ∙ is
one_known met known within (indexed name) is = refl
one_known met known within (counted name) is = and_yes (known (count_key name)) ∙ is
one_known met known within (around name) is = refl
one_known met known within (with_bits name) is = and_yes (known (place_key name)) ∙ within (place_key name) is
one_known met known within (fact which) is = refl

-- those that a number can tell are
pub keys_known : (met known : Names) → AreWithin met known → (term : Term) → all_known met known term ≡ true → list_all known (keys_in term) ≡ true
keys_known met known within term all =
    all_flat known tellable (mentions term) ∙ all_more (is_known_there met known) (λ one. list_all known (tellable one)) (one_known met known within) (mentions term) all

pub has_known : (met known : Names) → AreWithin met known → (term : Term) (key : Key) → all_known met known term ≡ true → has_key key term ≡ true → known key ≡ true
has_known met known within term key all has = key_passes known (keys_in term) key (keys_known met known within term all) has

-- The name that isn't known is the one that is told.

within_more : (met known : Names) (key : Key) → AreWithin met known → AreWithin met (with_key known key)
within_more met known key within other is = or_right (is_same_key key other) (known other) (within other is)

unnamed : (key : Key) → may_be_told key ≡ false → (name : List ℕ) → is_same_key key (place_key name) ≡ false
unnamed (place_of other) none name = absurd cc
unnamed (count_of other) none name = absurd cc
unnamed (rows_of label) none name = refl
unnamed (place_in label number) none name = refl
unnamed (row_in array) none name = refl

uncounted : (key : Key) → may_be_told key ≡ false → (name : List ℕ) → is_same_key key (count_key name) ≡ false
uncounted (place_of other) none name = absurd cc
uncounted (count_of other) none name = absurd cc
uncounted (rows_of label) none name = refl
uncounted (place_in label number) none name = refl
uncounted (row_in array) none name = refl

-- neither the place of a label nor a number of rows: it can't be solved
pub unsolved : (key : Key) → may_be_told key ≡ false → (term : Term) → can_solve key term ≡ false
unsolved key none (Constant number) = refl
unsolved key none (Named name) = unnamed key none name
unsolved key none (Indexed name index) = refl
unsolved key none (RowsOf name) = uncounted key none name
unsolved key none (RowNumber name) = refl
unsolved key none (BitsAt name start width) = refl
unsolved key none (FactOf which) = refl
unsolved key none (OfOne op operand) = and_no (undoes_one op) (can_solve key operand) (unsolved key none operand)
unsolved key none (OfTwo op left right) =
    no_side (has_key key left) (undoes_left op && not (has_key key right)) (can_solve key left) (undoes_right op) (can_solve key right)
    (unsolved key none left) (unsolved key none right)
  where
    no_side : (has one two three four : Bool) → two ≡ false → four ≡ false → (if has then one && two else three && four) ≡ false
    no_side true one two three four none other = and_no one two none
    no_side false one two three four none other = and_no three four other

-- none is told where not all would be known
module _ (rest : PlainBody) (met known : Names) (term : Term) (never : NeverKnown met known term) where
  never_told : (key : Key) → IsTold key → tells rest met known term key ≡ false
  never_told key told = and_no (declares rest key && can_solve key term) (all_known met (with_key known key) term) (never key told)

  untold : (key : Key) → tells rest met known term key ≡ false
  untold (place_of name) = never_told (place_of name) (λ label. refl)
  untold (count_of name) = never_told (count_of name) (λ label. refl)
  untold (rows_of label) =
      no_and (declares rest (rows_of label) && can_solve (rows_of label) term) (all_known met (with_key known (rows_of label)) term)
      (and_no (declares rest (rows_of label)) (can_solve (rows_of label) term) (unsolved (rows_of label) refl term))
  untold (place_in name number) = never_told (place_in name number) (λ label. refl)
  untold (row_in name) = never_told (row_in name) (λ label. refl)

  tells_none : tells_one rest met known term ≡ false
  tells_none = none_any (tells rest met known term) untold (keys_in term)

-- so no number tells it
pub tells_not : (rest : PlainBody) (met known : Names) (term : Term) (key : Key) → may_be_told key ≡ false → tells rest met known term key ≡ false
tells_not rest met known term key none =
    no_and (declares rest key && can_solve key term) (all_known met (with_key known key) term) (and_no (declares rest key) (can_solve key term) (unsolved key none term))

module _ (rest : PlainBody) (met known : Names) (within : AreWithin met known) (term : Term) (missing : Key) (stands : has_key missing term ≡ true)
    (gone : known missing ≡ false) where
  only : (key : Key) → tells rest met known term key ≡ true → key ≡ missing
  only key told =
      let all = (and_parts (declares rest key && can_solve key term) (all_known met (with_key known key) term) told).1 in
      key_is key missing (no_other (is_same_key key missing) (known missing) gone (has_known met (with_key known key) (within_more met known key within) term missing all stands))

  one_tells : tells_one rest met known term ≡ true → tells rest met known term missing ≡ true
  one_tells told =
      let it = passes (tells rest met known term) (keys_in term) told in
      subst (λ (k : Key). tells rest met known term k ≡ true) (only it.item it.is) it.is

  tells_it : tells rest met known term missing ≡ true → tells_one rest met known term ≡ true
  tells_it told = any_more (is_same_key missing) (tells rest met known term)
      (λ key same. subst (λ (k : Key). tells rest met known term k ≡ true) (key_is missing key same) told) (keys_in term) stands

  told_there : tells_one rest met known term ≡ tells rest met known term missing
  told_there = both_ways (tells_one rest met known term) (tells rest met known term missing) one_tells tells_it

told_is : (rest : PlainBody) (met known : Names) → AreWithin met known → (term : Term) (missing : Key) → Missing met known term missing
    → tells_one rest met known term ≡ tells rest met known term missing
told_is rest met known within term missing (inl (stands, gone)) = told_there rest met known within term missing stands gone
told_is rest met known within term missing (inr never) = tells_none rest met known term never ∙ sym (untold rest met known term never missing)

-- what is met is known at a field
pub met_known : (passed : Passed) → AreWithin passed.met (is_known passed)
met_known passed key is = or_right (passed.near key) (passed.met key || passed.told key) (or_left (passed.met key) (passed.told key) is)

-- a number is read where the first name that isn't known is told
pub number_tells : (rest : PlainBody) (passed : Passed) (term : Term) (missing : Key) → first_unknown passed.met (is_known passed) term ≡ Some missing
    → tells rest passed.met (is_known passed) term missing ≡ is_number_read rest passed (Some term)
number_tells rest passed term missing is =
    let known = is_known passed in
    sym (told_is rest passed.met known (met_known passed) term missing (is_missing passed.met known term missing is))
    ∙ ap (λ (all : Bool). all || tells_one rest passed.met known term) (ap is_none (sym is) ∙ none_unknown passed.met known term)

-- or where there is none
pub number_known : (rest : PlainBody) (passed : Passed) (term : Term) → first_unknown passed.met (is_known passed) term ≡ None → true ≡ is_number_read rest passed (Some term)
number_known rest passed term is =
    ap (λ (all : Bool). all || tells_one rest passed.met (is_known passed) term) (ap is_none (sym is) ∙ none_unknown passed.met (is_known passed) term)

-- What is told after it.

none_new : (has known : Bool) → (has ≡ true → known ≡ true) → (has && not known) ≡ false
none_new true known to = ap not (to refl)
none_new false known to = refl

-- nothing more where all names were known
pub told_still : (passed : Passed) (term : Term) → first_unknown passed.met (is_known passed) term ≡ None → passed ≡ told_by (Some term) passed
told_still passed term is = λ i. record { met = passed.met; told = λ key. none key i || passed.told key; near = passed.near }
  where
    none : (key : Key) → false ≡ (has_key key term && not (is_known passed key))
    none key =
        sym (none_new (has_key key term) (is_known passed key)
        (has_known passed.met (is_known passed) (met_known passed) term key (sym (none_unknown passed.met (is_known passed) term) ∙ ap is_none is)))

one_new : (same has known : Bool) → (has ≡ true → (same || known) ≡ true) → (same ≡ true → has ≡ true) → (same ≡ true → known ≡ false) → same ≡ (has && not known)
one_new true has known to from gone = sym (λ i. from refl i && not (gone refl i))
one_new false true known to from gone = sym (ap not (to refl))
one_new false false known to from gone = refl

-- what is told stands there and wasn't known
gone_if : (rest : PlainBody) (met known : Names) (term : Term) (key : Key) → Missing met known term key → tells rest met known term key ≡ true
    → (has_key key term ≡ true) × (known key ≡ false)
gone_if rest met known term key (inl found) told = found
gone_if rest met known term key (inr never) told = let no = untold rest met known term never key in absurd cc

-- and else the name that wasn't
pub told_then : (rest : PlainBody) (passed : Passed) (term : Term) (missing : Key) → first_unknown passed.met (is_known passed) term ≡ Some missing
    → tells rest passed.met (is_known passed) term missing ≡ true → also_told missing passed ≡ told_by (Some term) passed
told_then rest passed term missing is told = λ i. record { met = passed.met; told = λ key. new key i || passed.told key; near = passed.near }
  where
    all : all_known passed.met (with_key (is_known passed) missing) term ≡ true
    all = (and_parts (declares rest missing && can_solve missing term) (all_known passed.met (with_key (is_known passed) missing) term) told).1

    found : (has_key missing term ≡ true) × (is_known passed missing ≡ false)
    found = gone_if rest passed.met (is_known passed) term missing (is_missing passed.met (is_known passed) term missing is) told

    new : (key : Key) → is_same_key missing key ≡ (has_key key term && not (is_known passed key))
    new key = one_new (is_same_key missing key) (has_key key term) (is_known passed key)
        (has_known passed.met (with_key (is_known passed) missing) (within_more passed.met (is_known passed) missing (met_known passed)) term key all)
        (λ same. ap (λ (k : Key). has_key k term) (sym (key_is missing key same)) ∙ found.0)
        (λ same. ap (is_known passed) (sym (key_is missing key same)) ∙ found.1)
