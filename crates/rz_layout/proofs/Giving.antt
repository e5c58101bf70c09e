-- The names that late numbers have in the end.
use Rattle.std.proofs.Common.{◌≡◌, ℕ, ℤ, pos, Bool, true, false, ◌||◌, List, [], ◌∷◌, ◌++◌, length, map, Option, Some, None, refl, sym, ap, ◌∙◌}
use Rattle.std.specs.Prelude.{if◌then◌else◌, int_le}
use Rattle.std.specs.Option.{is_some, option_to_list}
use Rattle.std.specs.Str.{str_eq_ignore_ascii_case, str_to_ascii_lowercase}
use Rattle.std.proofs.lemmas.List.{append-nil}
use Rattle.std.proofs.lemmas.List.Folds.{list_any-append}
use Rattle.rz_core.proofs.Tests.{by_test, none_some, true_false}
use Rattle.rz_core.specs.declared.resource.Word.{Word}
use Rattle.rz_expr.proofs.Cases.{same_value}
use Rattle.rz_expr.specs.Environment.{count_key, count_of, place_in, place_key, row_key, rows_key, rows_of, Environment, Key}
use Rattle.rz_expr.specs.Value.{value_of}
use Rattle.rz_core.specs.declared.facts.Facts.{Facts}
use Rattle.rz_types_fields.proofs.RowKeys.{placed_as_counted, undeclared as around_undeclared}
use Rattle.rz_types_fields.specs.declared.tree.Tree.{Tree}
use Rattle.rz_types_fields.specs.Field.{field_and, no_fields, takes_value, Align, Array, Fill, Label, Number, PlainBody, PlainField, Points, Switch, Text}
use Rattle.rz_types_fields.specs.Front.{names_inside}
use Rattle.rz_types_fields.specs.Laid.{closing, counted, entered, first_value, other_values, outside_of, rows_in, with_count, with_field, LateNumber}
use Rattle.rz_types_fields.specs.Passed.{declares, gives_count, gives_key, outside}
use Rattle.rz_types.specs.Names.{FillsRows, GivesCounts, GivesNumbers, GivesOwn, NamesNothing}
use Rattle.rz_types.specs.Walk.{and_names, around_names, is_among, names_of, no_names, Own}
use Rattle.rz_types.proofs.OwnNames.{among_counts, among_places, among_rows}
use Rattle.rz_layout.proofs.Filled.{Each}
use Rattle.rz_layout.proofs.Labels.{counted_none, entered_label, entered_none, entered_row, is_around, no_row}
use Rattle.rz_layout.proofs.Sees.{is_in_row}
use Rattle.rz_types_fields.proofs.SameNames.{same_name as folded_name}
use Rattle.rz_types_fields.specs.RowLabels.{is_row, row_number, row_of, RowOf}
use Rattle.rz_types_fields.specs.Sees.{sees}

-- Values that there are.

pub some_value : (o : Option ℤ) → is_some o ≡ true → (v : ℤ) × (o ≡ Some v)
some_value None is = absurd (true_false (sym is))
some_value (Some v) is = (v, refl)

pub is_valued : (o : Option ℤ) (v : ℤ) → o ≡ Some v → is_some o ≡ true
is_valued o v is = ap is_some is

pub or_left : (a b : Bool) → (a || b) ≡ true → b ≡ false → a ≡ true
or_left true b is none = refl
or_left false b is none = absurd (true_false (sym is ∙ none))

-- The arrays of a body have numbers of rows at its front.

array_some : (name : Option Word) (rows : ℕ) (outer : Environment) (key : Key) → gives_count name key ≡ true → is_some ((with_count name rows outer).give key) ≡ true
array_some name rows outer key gives = ap (λ (test : Bool). is_some (if test then Some (pos rows) else outer.give key)) gives

field_some : (field : PlainField) (value : Option Tree) (outer : Environment) (name : List ℕ) → gives_key field (count_of name) ≡ true → is_some ((with_field field value outer).give (count_of name)) ≡ true
field_some (Number number) value outer key gives = absurd (true_false (sym gives))
field_some (Text text) value outer key gives = absurd (true_false (sym gives))
field_some (Points points) value outer key gives = absurd (true_false (sym gives))
field_some (Fill unit count) value outer key gives = absurd (true_false (sym gives))
field_some (Align unit) value outer key gives = absurd (true_false (sym gives))
field_some (Label name) value outer key gives = absurd (true_false (sym gives))
field_some (Array name count row) value outer key gives = array_some name (length (rows_in value)) outer (count_of key) (or_left (gives_count name (count_of key)) false gives refl)
field_some (Switch cases) value outer key gives = absurd (true_false (sym gives))

counted_some : (body : PlainBody) (values : List Tree) (outer : Environment) (name : List ℕ) → declares body (count_of name) ≡ true → is_some ((counted body values outer).give (count_of name)) ≡ true
counted_some no_fields values outer name gives = absurd (true_false (sym gives))
counted_some (field_and field fields) values outer name gives =
    let next = with_field field (first_value (takes_value field) values) outer in
    let others = other_values (takes_value field) values in
    by_test (is_some ((counted fields others next).give (count_of name)) ≡ true) (declares fields (count_of name))
    (λ later. counted_some fields others next name later)
    (λ none. ap is_some (counted_none fields others next (count_of name) none)
    ∙ field_some field (first_value (takes_value field) values) outer name (or_left (gives_key field (count_of name)) (declares fields (count_of name)) gives none))

pub entered_some : (which : Option RowOf) (body : PlainBody) (values : List Tree) (outer : Environment) (name : List ℕ) → declares body (count_of name) ≡ true
    → is_some ((entered which body values outer).give (count_of name)) ≡ true
entered_some which body values outer name gives = counted_some body values (names_inside which body outer) name gives

among_both : (name : List ℕ) (one other : List Word) → is_among name (one ++ other) ≡ (is_among name one || is_among name other)
among_both name one other = list_any-append (λ (w : Word). str_eq_ignore_ascii_case w.bytes name) one other

-- what is among both, and not among the second, is among the first
among_first : (name : List ℕ) (one other : List Word) → is_among name (one ++ other) ≡ true → is_among name other ≡ false → is_among name one ≡ true
among_first name one other among none = or_left (is_among name one) (is_among name other) (sym (among_both name one other) ∙ among) none

-- What may be named in a body: its own names, the array of which it is a row, and what may be named around it.
pub record IsScope (scope inner : Own) (which : Option RowOf) (row : PlainBody) : Type 0 where
  pub labels : (name : List ℕ) → is_among name inner.labels ≡ true → is_among name (names_of row).labels ≡ false → is_among name scope.labels ≡ true
  pub arrays : (name : List ℕ) → is_among name inner.arrays ≡ true → is_among name (names_of row).arrays ≡ false → is_among name scope.arrays ≡ true
  pub indexed : (name : List ℕ) → is_among name inner.indexed ≡ true → is_among name (names_of row).indexed ≡ false → is_among name scope.indexed ≡ true
  pub around : (name : List ℕ) → is_among name inner.around ≡ true → is_row which (row_key name) ≡ false → is_among name scope.around ≡ true

none_around : (body : PlainBody) → (names_of body).around ≡ []
none_around no_fields = refl
none_around (field_and (Number number) fields) = none_around fields
none_around (field_and (Text text) fields) = none_around fields
none_around (field_and (Points points) fields) = none_around fields
none_around (field_and (Fill unit count) fields) = none_around fields
none_around (field_and (Align unit) fields) = none_around fields
none_around (field_and (Label name) fields) = none_around fields
none_around (field_and (Array name count row) fields) = none_around fields
none_around (field_and (Switch cases) fields) = none_around fields

-- nothing more is among names with none after them
among_alone : (name : List ℕ) (one other : List Word) → other ≡ [] → is_among name (one ++ other) ≡ true → is_among name one ≡ true
among_alone name one other none among = sym (ap (is_among name) (ap (λ (names : List Word). one ++ names) none ∙ append-nil one)) ∙ among

pub case_scope : (scope : Own) (row : PlainBody) → IsScope scope (and_names scope (names_of row)) None row
case_scope scope row = record {
  labels = λ name. among_first name scope.labels (names_of row).labels;
  arrays = λ name. among_first name scope.arrays (names_of row).arrays;
  indexed = λ name. among_first name scope.indexed (names_of row).indexed;
  around = λ name among at_row. among_alone name scope.around (names_of row).around (none_around row) among;
}

array_around : (name : Option Word) (number : ℕ) (array : List ℕ) → is_row (row_of name number) (row_key array) ≡ false → is_among array (option_to_list name) ≡ false
array_around None number array at_row = refl
array_around (Some own) number array at_row = ap (λ (test : Bool). test || false) (folded_name own.bytes array ∙ at_row)

pub row_scope : (scope : Own) (name : Option Word) (number : ℕ) (row : PlainBody) → IsScope scope (and_names (and_names scope (around_names name)) (names_of row)) (row_of name number) row
row_scope scope name number row = record {
  labels = λ one among none. among_alone one scope.labels [] refl (among_first one (scope.labels ++ []) (names_of row).labels among none);
  arrays = λ one among none. among_alone one scope.arrays [] refl (among_first one (scope.arrays ++ []) (names_of row).arrays among none);
  indexed = λ one among none. among_alone one scope.indexed [] refl (among_first one (scope.indexed ++ []) (names_of row).indexed among none);
  around = λ one among at_row. among_first one scope.around (option_to_list name) (among_alone one (scope.around ++ option_to_list name) (names_of row).around (none_around row) among) (array_around name number one at_row);
}

module _ (scope inner : Own) (which : Option RowOf) (row : PlainBody) (is : IsScope scope inner which row) (line : List Tree) (outer : Environment) where
  pub entered_counts : GivesCounts scope.arrays outer → GivesCounts inner.arrays (entered which row line outer)
  entered_counts gives = record {
    give = λ name among. by_test ((rows : ℤ) × ((entered which row line outer).give (count_key name) ≡ Some rows)) (declares row (count_key name))
        (λ own. some_value ((entered which row line outer).give (count_key name)) (entered_some which row line outer (str_to_ascii_lowercase name) own))
        (λ none. let given = gives.give name (is.arrays name among (among_counts name row ∙ none)) in
        (given.0, entered_none which row line outer (count_key name) none (no_row which (count_key name) refl) ∙ given.1));
  }

  number_some : (other : Option RowOf) (key : Key) → is_row other key ≡ true → (number : ℤ) × (row_number other ≡ Some number)
  number_some None key at_row = absurd (true_false (sym at_row))
  number_some (Some own) key at_row = (pos own.number, refl)

  pub entered_numbers : GivesNumbers scope.around outer → GivesNumbers inner.around (entered which row line outer)
  entered_numbers gives = record {
    give = λ name among. by_test ((number : ℤ) × ((entered which row line outer).give (row_key name) ≡ Some number)) (is_row which (row_key name))
        (λ at_row. let some = number_some which (row_key name) at_row in (some.0, entered_row which row line outer (row_key name) at_row ∙ some.1))
        (λ at_row. let given = gives.give name (is.around name among at_row) in
        (given.0, entered_none which row line outer (row_key name) (around_undeclared row (str_to_ascii_lowercase name)) at_row ∙ given.1));
  }

pub entered_fills : (which : Option RowOf) (row : PlainBody) (line : List Tree) (outer : Environment) → FillsRows outer → FillsRows (entered which row line outer)
entered_fills which row line outer fills = record { give = λ label rows number has low high. by label rows number has low high (declares row (rows_of label)) refl }
  where
    by : (label : List ℕ) (rows number : ℤ) → (entered which row line outer).give (rows_of label) ≡ Some rows → int_le (pos 1) number ≡ true → int_le number rows ≡ true → (test : Bool) → declares row (rows_of label) ≡ test
        → (place : ℤ) × ((entered which row line outer).give (place_in label number) ≡ Some place)
    by label rows number has low high true own = absurd (none_some rows (sym (entered_label which row line outer true label own) ∙ has))
    by label rows number has low high false none =
        let there = fills.give label rows number (sym (entered_none which row line outer (rows_of label) none (no_row which (rows_of label) refl)) ∙ has) low high in
        (there.0, entered_none which row line outer (place_in label number) (placed_as_counted row label number ∙ none) (no_row which (place_in label number) refl) ∙ there.1)

-- Late numbers have the names of their body and of those around it in the end.

abbrev pub IsGiven : Facts → Own → LateNumber → Type 0
IsGiven known scope one =
    (names : Environment) → GivesOwn scope names → GivesNumbers scope.around names → FillsRows names → (bits : List Bool) → NamesNothing (value_of one.term (sees known bits (one.names names) one.at))

-- at the end of a body its names have values
pub record IsEnded (which : Option RowOf) (row : PlainBody) (own : Environment) : Type 0 where
  pub gives : (key : Key) → is_in_row key ≡ false → declares row key ≡ true → is_some (own.give key) ≡ true
  pub number : (key : Key) → is_row which key ≡ true → is_some (own.give key) ≡ true
  pub fills : FillsRows own

module _ (scope inner : Own) (which : Option RowOf) (row : PlainBody) (is : IsScope scope inner which row) (own outer : Environment) (ended : IsEnded which row own) where
  abbrev within : Environment
  within = outside_of which row own outer

  -- a name of the row, or of those around it
  either : (key : Key) → is_in_row key ≡ false → is_around key ≡ false → (declares row key ≡ false → (v : ℤ) × (outer.give key ≡ Some v)) → (v : ℤ) × (within.give key ≡ Some v)
  either key single other more = by (no_row which key other) (declares row key) refl
    where
      by : is_row which key ≡ false → (test : Bool) → declares row key ≡ test → (v : ℤ) × (within.give key ≡ Some v)
      by at_row true mine = let some = some_value (own.give key) (ended.gives key single mine) in (some.0, (λ i. if at_row i || mine i then own.give key else outer.give key) ∙ some.1)
      by at_row false none = let some = more none in (some.0, (λ i. if at_row i || none i then own.give key else outer.give key) ∙ some.1)

  pub gives_within : GivesOwn scope outer → GivesOwn inner within
  gives_within around = record {
    outside = record { give = λ name value so. either (place_key name) refl refl (λ none. around.outside.give name value so) };
    places = record {
      give = λ name among. either (place_key name) refl refl (λ none. around.places.give name (is.labels name among (among_places name row ∙ none)));
    };
    counts = record {
      give = λ name among. either (count_key name) refl refl (λ none. around.counts.give name (is.arrays name among (among_counts name row ∙ none)));
    };
    rows = record {
      give = λ name among. either (rows_key name) refl refl (λ none. around.rows.give name (is.indexed name among (among_rows name row ∙ none)));
    };
  }

  pub numbers_within : GivesNumbers scope.around outer → GivesNumbers inner.around within
  numbers_within around = record { give = λ name among. by name among (is_row which (row_key name)) refl (around_undeclared row (str_to_ascii_lowercase name)) }
    where
      by : (name : List ℕ) → is_among name inner.around ≡ true → (test : Bool) → is_row which (row_key name) ≡ test → declares row (row_key name) ≡ false → (v : ℤ) × (within.give (row_key name) ≡ Some v)
      by name among true at_row none =
          let some = some_value (own.give (row_key name)) (ended.number (row_key name) at_row) in
          (some.0, ap (λ (test : Bool). if test || declares row (row_key name) then own.give (row_key name) else outer.give (row_key name)) at_row ∙ some.1)
      by name among false at_row none = let some = around.give name (is.around name among at_row) in (some.0, (λ i. if at_row i || none i then own.give (row_key name) else outer.give (row_key name)) ∙ some.1)

  pub fills_within : FillsRows outer → FillsRows within
  fills_within around = record { give = λ label rows number has low high. by label rows number has low high (no_row which (rows_of label) refl) (no_row which (place_in label number) refl) (declares row (rows_of label)) refl }
    where
      by : (label : List ℕ) (rows number : ℤ) → within.give (rows_of label) ≡ Some rows → int_le (pos 1) number ≡ true → int_le number rows ≡ true
          → is_row which (rows_of label) ≡ false → is_row which (place_in label number) ≡ false → (test : Bool) → declares row (rows_of label) ≡ test → (place : ℤ) × (within.give (place_in label number) ≡ Some place)
      by label rows number has low high at_row also true mine =
          let there = ended.fills.give label rows number (sym (λ i. if at_row i || mine i then own.give (rows_of label) else outer.give (rows_of label)) ∙ has) low high in
          let so : declares row (place_in label number) ≡ true = placed_as_counted row label number ∙ mine in
          (there.0, (λ i. if also i || so i then own.give (place_in label number) else outer.give (place_in label number)) ∙ there.1)
      by label rows number has low high at_row also false none =
          let there = around.give label rows number (sym (λ i. if at_row i || none i then own.give (rows_of label) else outer.give (rows_of label)) ∙ has) low high in
          let so : declares row (place_in label number) ≡ false = placed_as_counted row label number ∙ none in
          (there.0, (λ i. if also i || so i then own.give (place_in label number) else outer.give (place_in label number)) ∙ there.1)

pub closing_given : (known : Facts) (scope inner : Own) (which : Option RowOf) (row : PlainBody) → IsScope scope inner which row → (own : Environment) → IsEnded which row own → (one : LateNumber) → IsGiven known inner one
    → IsGiven known scope (closing which row own one)
closing_given known scope inner which row is own ended one given = λ outer around numbers fills bits.
    given (outside_of which row own outer) (gives_within scope inner which row is own outer ended around) (numbers_within scope inner which row is own outer ended numbers)
    (fills_within scope inner which row is own outer ended fills) bits

pub outside_own : GivesOwn no_names outside
outside_own = record {
  outside = record { give = λ name value is. (value, sym (same_value name) ∙ is) };
  places = record { give = λ name among. absurd (true_false (sym among)) };
  counts = record { give = λ name among. absurd (true_false (sym among)) };
  rows = record { give = λ name among. absurd (true_false (sym among)) };
}

pub outside_numbers : GivesNumbers [] outside
outside_numbers = record { give = λ name among. absurd (true_false (sym among)) }

pub outside_fills : FillsRows outside
outside_fills = record { give = λ label rows number has low high. absurd (none_some rows has) }

-- Each.

pub each_append : (P : LateNumber → Type 0) (numbers others : List LateNumber) → Each P numbers → Each P others → Each P (numbers ++ others)
each_append P [] others one more = more
each_append P (number ∷ numbers) others one more = (one.0, each_append P numbers others one.1 more)

pub each_mapped : (P Q : LateNumber → Type 0) (change : LateNumber → LateNumber) → ((one : LateNumber) → P one → Q (change one)) → (numbers : List LateNumber) → Each P numbers → Each Q (map change numbers)
each_mapped P Q change so [] each = tt
each_mapped P Q change so (number ∷ numbers) each = (so number each.0, each_mapped P Q change so numbers each.1)
