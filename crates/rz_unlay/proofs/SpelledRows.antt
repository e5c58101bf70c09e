-- The rows that were read: their number, the labels in them, and the names inside each.
use Rattle.std.proofs.Common.{◌≡◌, ℕ, suc, ◌+◌, ℤ, pos, Bool, true, false, ◌&&◌, ◌||◌, not, List, [], ◌∷◌, length, Option, Some, None, refl, sym, ap, ◌∙◌, subst, arith}
use Rattle.std.specs.Prelude.{if◌then◌else◌, option_and_then, slice_get}
use Rattle.rz_core.specs.Lists.{or_else}
use Rattle.rz_core.specs.declared.facts.Facts.{Facts}
use Rattle.rz_core.specs.declared.resource.Word.{Word}
use Rattle.rz_expr.specs.Environment.{count_key, place_in, place_of, rows_of, Environment, IsPartOf, Key}
use Rattle.rz_types_fields.specs.Field.{field_and, no_fields, Align, Array, Fill, Label, Number, PlainBody, PlainField, Points, Switch, Text}
use Rattle.rz_types_fields.specs.Front.{names_inside, stated_in, stated_value}
use Rattle.rz_types_fields.specs.Passed.{at_front, behind, declares, gives_count, gives_key, gives_rows, has_label, is_held, is_label, states, states_count, Passed}
use Rattle.rz_types_fields.specs.RowLabels.{also_rows, is_row, row_number, row_of, rows_give, RowOf}
use Rattle.rz_types_fields.specs.Sees.{Late}
use Rattle.rz_types_fields.specs.Spells.{plainly, AreRows, BodySpells, HasPlace, Inside, IsCounted, RowSpells, RowsSpell, Within}
use Rattle.rz_types_fields.specs.declared.tree.Tree.{Tree}
use Rattle.rz_types_fields.proofs.RowKeys.{row_keys}
use Rattle.rz_types_fields.proofs.SameNames.{key_itself}
use Rattle.rz_unlay_pieces.specs.Pieces.{claim_count}
use Rattle.rz_unlay.specs.Cursor.{Line}
use Rattle.rz_unlay.proofs.Asked.{asked_no_row, is_asked}
use Rattle.rz_unlay.proofs.Claims.{claim_came, claimed_knows}
use Rattle.rz_unlay.proofs.Fresh.{rows_kept, rows_unknown, Fresh}
use Rattle.rz_unlay.proofs.Labelled.{AreLabelled}
use Rattle.rz_unlay.proofs.ReadsRows.{passed_behind, rows_met}
use Rattle.rz_unlay.proofs.ReadsTests.{by_case, if_false, if_true, left_true, neither, none_is, right_true, some_same}
use Rattle.rz_unlay.proofs.RowsRead.{LinesRead}
use Rattle.rz_unlay.proofs.SpelledNames.{Came, Grows, Knows}
use Rattle.rz_unlay.proofs.Told.{same_part}

-- The rows of an array.

-- what is known after their number
record Counted (name : Option Word) (rows : ℕ) (passed : Passed) (names more : Environment) : Type 0 where
  grows : Grows (gives_count name) names more
  counted : (env : Environment) → IsPartOf more env → IsCounted name rows env
  knows : Knows (is_held (passed_behind passed name)) more

count_came : (name : Option Word) (rows : ℕ) (passed : Passed) (names more : Environment) → Knows (is_held passed) names → claim_count name rows names ≡ Some more → Counted name rows passed names more
count_came None rows passed names more knows is = subst (Counted None rows passed names) (some_same names more is) (record {
  grows = record { kept = same_part names; same = λ key none. refl };
  counted = λ env part. tt;
  knows = record { covers = knows.covers; only = knows.only };
})
count_came (Some name) rows passed names more knows is =
    let it = claim_came (count_key name.bytes) (pos rows) names more is in
    let known = claimed_knows (count_key name.bytes) (pos rows) passed names more knows it in
    record {
      grows = record { kept = it.kept; same = it.same };
      counted = λ env part. part.give (count_key name.bytes) (pos rows) (it.has (count_key name.bytes) (key_itself (count_key name.bytes)));
      knows = record { covers = known.covers; only = known.only };
    }

-- and after the labels in them
pub record Rowed (name : Option Word) (count : Option ℤ) (row : PlainBody) (rows : ℕ) (lasts : List Environment) (passed : Passed) (names more : Environment) : Type 0 where
  pub grows : Grows (gives_key (Array name count row)) names (also_rows row lasts more)
  pub counted : (env : Environment) → IsPartOf (also_rows row lasts more) env → IsCounted name rows env
  pub labelled : (env : Environment) → IsPartOf (also_rows row lasts more) env → AreRows row rows env
  pub knows : Knows (is_held (behind (Array name count row) passed)) (also_rows row lasts more)

-- the names of rows alone change
behind_rows : (row : PlainBody) (lasts : List Environment) (more env : Environment) → IsPartOf (also_rows row lasts more) env → (key : Key) (value : ℤ) → gives_rows row key ≡ false → more.give key ≡ Some value
    → env.give key ≡ Some value
behind_rows row lasts more env part key value none is = part.give key value (if_false (gives_rows row key) (rows_give lasts key) (more.give key) none ∙ is)

labelled_by : (row : PlainBody) (rows : ℕ) (lasts : List Environment) (more env : Environment) → length lasts ≡ rows → IsPartOf (also_rows row lasts more) env → AreRows row rows env
labelled_by row rows lasts more env long part = record {
  give = λ label has. part.give (rows_of label) (pos rows) (if_true (has_label row label) (Some (pos (length lasts))) (more.give (rows_of label)) has ∙ ap (λ (n : ℕ). Some (pos n)) long);
}

rows_know : (name : Option Word) (count : Option ℤ) (row : PlainBody) (lasts : List Environment) (passed : Passed) (more : Environment) → Knows (is_held (passed_behind passed name)) more
    → Knows (is_held (behind (Array name count row) passed)) (also_rows row lasts more)
rows_know name count row lasts passed more knows = record { covers = rows_met row lasts passed name count more knows.covers; only = only }
  where
    held : (own in_rows met told : Bool) → in_rows ≡ true → (((own || in_rows) || met) || told) ≡ true
    held true in_rows met told is = refl
    held false true met told is = refl
    held false false met told is = absurd cc

    still : (own in_rows met told : Bool) → ((own || met) || told) ≡ true → (((own || in_rows) || met) || told) ≡ true
    still true in_rows met told is = refl
    still false true met told is = refl
    still false false met told is = is

    only : (key : Key) (value : ℤ) → is_asked key ≡ true → (also_rows row lasts more).give key ≡ Some value → is_held (behind (Array name count row) passed) key ≡ true
    only key value asked found = by_case (gives_rows row key)
        (λ given. held (gives_count name key) (gives_rows row key) (passed.met key) (passed.told key) given)
        (λ none. still (gives_count name key) (gives_rows row key) (passed.met key) (passed.told key)
        (knows.only key value asked (sym (if_false (gives_rows row key) (rows_give lasts key) (more.give key) none) ∙ found)))

pub rows_came : (name : Option Word) (count : Option ℤ) (row fields : PlainBody) (rows : ℕ) (lasts : List Environment) (passed : Passed) (names more : Environment) → length lasts ≡ rows → Knows (is_held passed) names
    → Fresh (field_and (Array name count row) fields) names → claim_count name rows names ≡ Some more → Rowed name count row rows lasts passed names more
rows_came name count row fields rows lasts passed names more long knows fresh is =
    let it = count_came name rows passed names more knows is in
    record {
      grows = record {
        kept = rows_kept row lasts names more (rows_unknown name count row fields names fresh) it.grows.kept;
        same = λ key none.
            let each = neither (gives_count name key) (gives_rows row key) none in
            if_false (gives_rows row key) (rows_give lasts key) (more.give key) each.1 ∙ it.grows.same key each.0;
      };
      counted = counted_by name it.counted;
      labelled = λ env part. labelled_by row rows lasts more env long part;
      knows = rows_know name count row lasts passed more it.knows;
    }
  where
    counted_by : (name : Option Word) → ((env : Environment) → IsPartOf more env → IsCounted name rows env) → (env : Environment) → IsPartOf (also_rows row lasts more) env → IsCounted name rows env
    counted_by None counted env part = tt
    counted_by (Some own) counted env part =
        let has = counted more (same_part more) in
        behind_rows row lasts more env part (count_key own.bytes) (pos rows) refl has

-- At the front of a body.

record Stated (row : PlainBody) (key : Key) : Type 0 where
  has : states row key ≡ true → (value : ℤ) × (stated_in row key ≡ Some value)
  only : (value : ℤ) → stated_in row key ≡ Some value → states row key ≡ true

array_stated : (name : Option Word) (count : Option ℤ) (key : Key) (row : PlainBody) → Stated row key
    → ((states_count name count key || states row key) ≡ true → (value : ℤ) × (or_else (stated_value name count key) (stated_in row key) ≡ Some value))
    × ((value : ℤ) → or_else (stated_value name count key) (stated_in row key) ≡ Some value → (states_count name count key || states row key) ≡ true)
array_stated name None key row it = (it.has, it.only)
array_stated name (Some count) key row it = by (gives_count name key)
  where
    by : (test : Bool)
        → ((test || states row key) ≡ true → (value : ℤ) × (or_else (if test then Some count else None) (stated_in row key) ≡ Some value))
        × ((value : ℤ) → or_else (if test then Some count else None) (stated_in row key) ≡ Some value → (test || states row key) ≡ true)
    by true = (λ is. (count, refl), λ value is. refl)
    by false = (it.has, it.only)

stated : (row : PlainBody) (key : Key) → Stated row key
stated no_fields key = record { has = λ is. absurd cc; only = λ value is. absurd (none_is value is) }
stated (field_and (Number number) row) key = let it = stated row key in record { has = it.has; only = it.only }
stated (field_and (Text text) row) key = let it = stated row key in record { has = it.has; only = it.only }
stated (field_and (Points points) row) key = let it = stated row key in record { has = it.has; only = it.only }
stated (field_and (Fill unit count) row) key = let it = stated row key in record { has = it.has; only = it.only }
stated (field_and (Align unit) row) key = let it = stated row key in record { has = it.has; only = it.only }
stated (field_and (Label name) row) key = let it = stated row key in record { has = it.has; only = it.only }
stated (field_and (Array name count inner) row) key = let it = array_stated name count key row (stated row key) in record { has = it.0; only = it.1 }
stated (field_and (Switch cases) row) key = let it = stated row key in record { has = it.has; only = it.only }

front_known : (declared met told stated_here : Bool) → ((not declared && met) || (if declared then stated_here else told)) ≡ (if declared then stated_here else (met || told))
front_known true met told stated_here = refl
front_known false met told stated_here = refl

pub inside_knows : (row : PlainBody) (which : Option RowOf) (passed : Passed) (names : Environment) → Knows (is_held passed) names → Knows (is_held (at_front row passed)) (names_inside which row names)
inside_knows row which passed names knows = record { covers = covers; only = only }
  where
    known_is : (key : Key) → is_held (at_front row passed) key ≡ (if declares row key then states row key else is_held passed key)
    known_is key = front_known (declares row key) (passed.met key) (passed.told key) (states row key)

    inner : (key : Key) → is_asked key ≡ true → (names_inside which row names).give key ≡ (if declares row key then stated_in row key else names.give key)
    inner key asked = if_false (is_row which key) (row_number which) (if declares row key then stated_in row key else names.give key) (asked_no_row which key asked)

    covers : (key : Key) → is_asked key ≡ true → is_held (at_front row passed) key ≡ true → (value : ℤ) × ((names_inside which row names).give key ≡ Some value)
    covers key asked known = by_case (declares row key)
        (λ given.
        let so : states row key ≡ true = sym (known_is key ∙ if_true (declares row key) (states row key) (is_held passed key) given) ∙ known in
        let it = (stated row key).has so in
        (it.0, inner key asked ∙ if_true (declares row key) (stated_in row key) (names.give key) given ∙ it.1))
        (λ none.
        let so : is_held passed key ≡ true = sym (known_is key ∙ if_false (declares row key) (states row key) (is_held passed key) none) ∙ known in
        let it = knows.covers key asked so in
        (it.0, inner key asked ∙ if_false (declares row key) (stated_in row key) (names.give key) none ∙ it.1))

    only : (key : Key) (value : ℤ) → is_asked key ≡ true → (names_inside which row names).give key ≡ Some value → is_held (at_front row passed) key ≡ true
    only key value asked found = by_case (declares row key)
        (λ given. known_is key ∙ if_true (declares row key) (states row key) (is_held passed key) given
        ∙ (stated row key).only value (sym (inner key asked ∙ if_true (declares row key) (stated_in row key) (names.give key) given) ∙ found))
        (λ none. known_is key ∙ if_false (declares row key) (states row key) (is_held passed key) none
        ∙ knows.only key value asked (sym (inner key asked ∙ if_false (declares row key) (stated_in row key) (names.give key) none) ∙ found))

-- Labels of a body.

only_label : (field : PlainField) (label : List ℕ) → is_label field (place_of label) ≡ gives_key field (place_of label)
only_label (Number number) label = refl
only_label (Text text) label = refl
only_label (Points points) label = refl
only_label (Fill unit count) label = refl
only_label (Align unit) label = refl
only_label (Label name) label = refl
only_label (Array None count row) label = refl
only_label (Array (Some name) count row) label = refl
only_label (Switch cases) label = refl

-- those that stand directly in it are what it gives of places
labels_declared : (body : PlainBody) (label : List ℕ) → has_label body label ≡ declares body (place_of label)
labels_declared no_fields label = refl
labels_declared (field_and field fields) label = λ i. only_label field label i || labels_declared fields label i

-- A row with names of its own.

-- a name is one of its own: its fields give it, or it is the number of the row
abbrev is_own : Option RowOf → PlainBody → Key → Bool
is_own which row key = is_row which key || declares row key

abbrev own_names : Option RowOf → PlainBody → Environment → Environment → Environment
own_names which row inner outer = record { give = λ key. if is_own which row key then inner.give key else outer.give key }

module _ (row : PlainBody) (which : Option RowOf) (names found env : Environment) (grows : Grows (declares row) (names_inside which row names) found) (part : IsPartOf names env) where
  own_part : IsPartOf found (own_names which row found env)
  own_part = record {
    give = λ key value is. by_case (is_own which row key)
        (λ own. if_true (is_own which row key) (found.give key) (env.give key) own ∙ is)
        (λ none.
        let each = neither (is_row which key) (declares row key) none in
        let outer : found.give key ≡ names.give key =
        grows.same key each.1 ∙ if_false (is_row which key) (row_number which) (if declares row key then stated_in row key else names.give key) each.0
        ∙ if_false (declares row key) (stated_in row key) (names.give key) each.1 in
        if_false (is_own which row key) (found.give key) (env.give key) none ∙ part.give key value (sym outer ∙ is));
  }

  -- a label of the row has its place outside of it, by the number of the row
  has_places : (label : List ℕ) → has_label row label ≡ true → HasPlace which label env found → HasPlace which label env (own_names which row found env)
  has_places label has place = by which place
    where
      own : (own_names which row found env).give (place_of label) ≡ found.give (place_of label)
      own = if_true (is_own which row (place_of label)) (found.give (place_of label)) (env.give (place_of label)) (right_true (is_row which (place_of label)) (declares row (place_of label)) (sym (labels_declared row label) ∙ has))

      by : (some : Option RowOf) → HasPlace some label env found → HasPlace some label env (own_names which row found env)
      by None it = tt
      by (Some line) it = it ∙ sym own

  own_within : ((label : List ℕ) → has_label row label ≡ true → HasPlace which label env found) → Within row which env (own_names which row found env)
  own_within places = record {
    give = λ key none other. if_false (is_own which row key) (found.give key) (env.give key) (λ i. other i || none i);
    number = λ key is.
        if_true (is_own which row key) (found.give key) (env.give key) (left_true (is_row which key) (declares row key) is)
        ∙ grows.same key (row_keys which key row is)
        ∙ if_true (is_row which key) (row_number which) (if declares row key then stated_in row key else names.give key) is;
    places = λ label has. has_places label has (places label has);
  }

pub inside_came : (facts : Facts) (all : List Bool) (row : PlainBody) (which : Option RowOf) (passed : Passed) (names found env : Environment) (at : ℕ) (late : Late) (after : ℕ) (late_after : Late) (line : List Tree)
    → Came (declares row) (names_inside which row names) found at late after late_after (λ own. BodySpells plainly facts all row own passed line)
    → IsPartOf names env → ((label : List ℕ) → has_label row label ≡ true → HasPlace which label env found) → Inside row which env (λ own. BodySpells plainly facts all row own passed line) at late after late_after
inside_came facts all row which passed names found env at late after late_after line came part places =
    let own = own_names which row found env in
    (own, own_within row which names found env came.grows part places, came.spells own (own_part row which names found env came.grows part))

-- Rows one after the other.

-- a row was read: it is spelled so where its labels have the places outside of it, by its number, that they have at its end
pub record RowRead (facts : Facts) (all : List Bool) (name : Option Word) (row : PlainBody) (passed : Passed) (names : Environment) (number : ℕ) (line : Line) (at : ℕ) (late : Late) : Type 0 where
  pub spells : (env : Environment) → IsPartOf names env
      → ((label : List ℕ) (place : ℤ) → has_label row label ≡ true → line.own.give (place_of label) ≡ Some place → env.give (place_in label (pos number)) ≡ Some place)
      → Inside row (row_of name number) env (λ own. BodySpells plainly facts all row own passed line.row) at late line.after line.late

pub row_read : (facts : Facts) (all : List Bool) (name : Option Word) (row : PlainBody) (passed : Passed) (names : Environment) (number at : ℕ) (late : Late) (line : Line) → AreLabelled row line.own
    → Came (declares row) (names_inside (row_of name number) row names) line.own at late line.after line.late (λ own. BodySpells plainly facts all row own passed line.row)
    → RowRead facts all name row passed names number line at late
row_read facts all name row passed names number at late line labels came = record {
  spells = λ env part given.
      inside_came facts all row (row_of name number) passed names line.own env at late line.after line.late line.row came part
      (λ label has. let there = labels label has in given label there.0 has there.1 ∙ sym there.1);
}

module _ (facts : Facts) (all : List Bool) (name : Option Word) (row : PlainBody) (passed : Passed) (names env : Environment) (part : IsPartOf names env) (whole : List Environment)
    (given : (label : List ℕ) (n : ℕ) (own : Environment) (place : ℤ) → has_label row label ≡ true → slice_get whole n ≡ Some own → own.give (place_of label) ≡ Some place → env.give (place_in label (pos (suc n))) ≡ Some place) where
  abbrev Spelt : ℕ → List (List Tree) → RowSpells
  Spelt number rows = RowsSpell (λ number line. Inside row (row_of name number) env (λ own. BodySpells plainly facts all row own passed line)) number rows

  -- what names have at the ends of rows that were read is in a whole: each row is spelled so
  rows_on : (n number : ℕ) (rows : List (List Tree)) (lasts : List Environment) (at : ℕ) (late : Late) (after : ℕ) (late_after : Late) → number ≡ suc n → ((m : ℕ) → slice_get whole (n + m) ≡ slice_get lasts m)
      → LinesRead (λ number line at late. RowRead facts all name row passed names number line at late) number rows lasts at late after late_after → Spelt number rows at late after late_after
  rows_on n number [] lasts at late after late_after is stand it = (it.1, it.2)
  rows_on n number (values ∷ rows) lasts at late after late_after is stand it =
      let line : Line = it.0 in
      let others : List Environment = it.1 in
      let one = it.4 in
      let this : n ≡ n + 0 = omega (arith) in
      let first : slice_get whole n ≡ Some line.own = ap (slice_get whole) this ∙ stand 0 ∙ ap (λ (es : List Environment). slice_get es 0) it.3 in
      let place_is : (label : List ℕ) (place : ℤ) → has_label row label ≡ true → line.own.give (place_of label) ≡ Some place → env.give (place_in label (pos number)) ≡ Some place =
      (λ label place has there. ap (λ (m : ℕ). env.give (place_in label (pos m))) is ∙ given label n line.own place has first there) in
      let next : (m : ℕ) → slice_get whole (suc n + m) ≡ slice_get others m = (λ m. ap (slice_get whole) (shift n m) ∙ stand (suc m) ∙ ap (λ (es : List Environment). slice_get es (suc m)) it.3) in (
        line.after,
        line.late,
        subst (λ (r : List Tree). Inside row (row_of name number) env (λ own. BodySpells plainly facts all row own passed r) at late line.after line.late) it.2 (one.spells env part place_is),
        rows_on (suc n) (number + 1) rows others line.after line.late after late_after (omega (arith, is)) next it.5,
      )
    where
      shift : (n m : ℕ) → suc n + m ≡ n + suc m
      shift n m = omega (arith)

-- all rows of an array
pub rows_spelled : (facts : Facts) (all : List Bool) (name : Option Word) (row : PlainBody) (passed : Passed) (names more env : Environment) (rows : List (List Tree)) (lasts : List Environment) (at : ℕ) (late : Late)
    (after : ℕ) (late_after : Late) → IsPartOf names env → IsPartOf (also_rows row lasts more) env
    → LinesRead (λ number line at late. RowRead facts all name row passed names number line at late) 1 rows lasts at late after late_after
    → RowsSpell (λ number line. Inside row (row_of name number) env (λ own. BodySpells plainly facts all row own passed line)) 1 rows at late after late_after
rows_spelled facts all name row passed names more env rows lasts at late after late_after part behind it =
    rows_on facts all name row passed names env part lasts given 0 1 rows lasts at late after late_after (omega (arith)) (λ m. ap (slice_get lasts) (none m)) it
  where
    none : (m : ℕ) → 0 + m ≡ m
    none m = omega (arith)

    given : (label : List ℕ) (n : ℕ) (own : Environment) (place : ℤ) → has_label row label ≡ true → slice_get lasts n ≡ Some own → own.give (place_of label) ≡ Some place → env.give (place_in label (pos (suc n))) ≡ Some place
    given label n own place has there is =
        behind.give (place_in label (pos (suc n))) place
        (if_true (has_label row label) (rows_give lasts (place_in label (pos (suc n)))) (more.give (place_in label (pos (suc n)))) has
        ∙ ap (option_and_then (λ (own : Environment). own.give (place_of label))) there ∙ is)
