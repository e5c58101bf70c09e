-- The numbers of rows that the arrays of a body have, in its names.
use Rattle.std.proofs.Common.{◌≡◌, ℕ, pos, Bool, true, false, ◌||◌, List, length, Option, Some, None, refl, sym, ap, ◌∙◌}
use Rattle.std.specs.Prelude.{if◌then◌else◌}
use Rattle.std.specs.List.{AllByRecursion}
use Rattle.std.specs.Str.{str_eq_ignore_ascii_case}
use Rattle.rz_core.proofs.Tests.{by_test, true_false}
use Rattle.rz_core.specs.declared.resource.Word.{Word}
use Rattle.rz_expr.specs.Environment.{count_key, count_of, Environment, Key}
use Rattle.rz_types_fields.proofs.SameNames.{key_is, key_itself}
use Rattle.rz_types_fields.specs.declared.tree.Tree.{Tree}
use Rattle.rz_types_fields.specs.Field.{case_and, field_and, no_cases, no_fields, takes_value, Align, Array, Fill, Label, Number, PlainBody, PlainCases, PlainField, Points, Switch, Text}
use Rattle.rz_types_fields.specs.Laid.{counted, first_value, other_values, rows_in, with_count, with_field}
use Rattle.rz_types_fields.specs.Passed.{declares, gives_count, gives_key, gives_rows}
use Rattle.rz_types_fields.specs.Spells.{IsCounted}
use Rattle.rz_types.specs.Rules.{case_names}
use Rattle.rz_layout.proofs.Labels.{counted_none, or_first, or_true}

-- Each array of a body is counted.

abbrev pub FieldCounted : PlainField → Option Tree → Environment → Type 0
FieldCounted (Array name count row) value own = IsCounted name (length (rows_in value)) own
FieldCounted field value own = Unit {0}

abbrev pub AreCounted : PlainBody → List Tree → Environment → Type 0
AreCounted no_fields values own = Unit {0}
AreCounted (field_and field fields) values own = FieldCounted field (first_value (takes_value field) values) own × AreCounted fields (other_values (takes_value field) values) own

-- so its names have these numbers of rows

array_own : (name : Option Word) (rows : ℕ) (own outer : Environment) (key : Key) → IsCounted name rows own → gives_count name key ≡ true
    → own.give key ≡ (with_count name rows outer).give key
array_own None rows own outer key counted gives = absurd (true_false (sym gives))
array_own (Some name) rows own outer key counted gives =
    sym (ap own.give (key_is (count_key name.bytes) key gives)) ∙ counted
    ∙ sym (ap (λ (test : Bool). if test then Some (pos rows) else outer.give key) gives)

pub or_only : (a b : Bool) → (a || b) ≡ true → b ≡ false → a ≡ true
or_only true b is none = refl
or_only false b is none = sym none ∙ is

field_own : (field : PlainField) (value : Option Tree) (own outer : Environment) (name : List ℕ) → FieldCounted field value own → gives_key field (count_of name) ≡ true
    → own.give (count_of name) ≡ (with_field field value outer).give (count_of name)
field_own (Number number) value own outer key counted gives = absurd (true_false (sym gives))
field_own (Text text) value own outer key counted gives = absurd (true_false (sym gives))
field_own (Points points) value own outer key counted gives = absurd (true_false (sym gives))
field_own (Fill unit count) value own outer key counted gives = absurd (true_false (sym gives))
field_own (Align unit) value own outer key counted gives = absurd (true_false (sym gives))
field_own (Label name) value own outer key counted gives = absurd (true_false (sym gives))
field_own (Array name count row) value own outer key counted gives =
    array_own name (length (rows_in value)) own outer (count_of key) counted (or_only (gives_count name (count_of key)) false gives refl)
field_own (Switch cases) value own outer key counted gives = absurd (true_false (sym gives))

pub own_is : (body : PlainBody) (values : List Tree) (own outer : Environment) (name : List ℕ) → AreCounted body values own → declares body (count_of name) ≡ true
    → own.give (count_of name) ≡ (counted body values outer).give (count_of name)
own_is no_fields values own outer name are gives = absurd (true_false (sym gives))
own_is (field_and field fields) values own outer name are gives =
    let next = with_field field (first_value (takes_value field) values) outer in
    let others = other_values (takes_value field) values in
    by_test (own.give (count_of name) ≡ (counted fields others next).give (count_of name)) (declares fields (count_of name))
    (λ later. own_is fields others own next name are.1 later)
    (λ none. field_own field (first_value (takes_value field) values) own outer name are.0 (or_only (gives_key field (count_of name)) (declares fields (count_of name)) gives none)
    ∙ sym (counted_none fields others next (count_of name) none))

-- Different names.

abbrev mutual
  -- a field gives no name a value that another field of its body gives one, and so on within it; cases have different names
  pub IsApart : PlainField → Type 0
  IsApart (Number number) = Unit {0}
  IsApart (Text text) = Unit {0}
  IsApart (Points points) = Unit {0}
  IsApart (Fill unit count) = Unit {0}
  IsApart (Align unit) = Unit {0}
  IsApart (Label name) = Unit {0}
  IsApart (Array name count row) = AreApart row
  IsApart (Switch cases) = AreCasesApart cases

  pub AreCasesApart : PlainCases → Type 0
  AreCasesApart no_cases = Unit {0}
  AreCasesApart (case_and name row others) =
      AllByRecursion (λ later. str_eq_ignore_ascii_case name.bytes later.bytes ≡ false) (case_names others) × AreApart row × AreCasesApart others

  pub AreApart : PlainBody → Type 0
  AreApart no_fields = Unit {0}
  AreApart (field_and field fields) = ((key : Key) → gives_key field key ≡ true → declares fields key ≡ false) × IsApart field × AreApart fields

-- the number of rows of an array, by its own name
own_count : (name : Word) (rows : ℕ) (outer : Environment) → (with_count (Some name) rows outer).give (count_key name.bytes) ≡ Some (pos rows)
own_count name rows outer = ap (λ (test : Bool). if test then Some (pos rows) else outer.give (count_key name.bytes)) (key_itself (count_key name.bytes))

array_counted : (name : Option Word) (rows : ℕ) (fields : PlainBody) (values : List Tree) (outer : Environment) → ((key : Key) → gives_count name key ≡ true → declares fields key ≡ false)
    → IsCounted name rows (counted fields values (with_count name rows outer))
array_counted None rows fields values outer apart = tt
array_counted (Some name) rows fields values outer apart =
    counted_none fields values (with_count (Some name) rows outer) (count_key name.bytes) (apart (count_key name.bytes) (key_itself (count_key name.bytes))) ∙ own_count name rows outer

pub counted_are : (body : PlainBody) (values : List Tree) (outer : Environment) → AreApart body → AreCounted body values (counted body values outer)
counted_are no_fields values outer apart = tt
counted_are (field_and (Number number) fields) values outer apart = (tt, counted_are fields (other_values (takes_value (Number number)) values) outer apart.2)
counted_are (field_and (Text text) fields) values outer apart = (tt, counted_are fields (other_values (takes_value (Text text)) values) outer apart.2)
counted_are (field_and (Points points) fields) values outer apart = (tt, counted_are fields (other_values (takes_value (Points points)) values) outer apart.2)
counted_are (field_and (Fill unit count) fields) values outer apart = (tt, counted_are fields values outer apart.2)
counted_are (field_and (Align unit) fields) values outer apart = (tt, counted_are fields values outer apart.2)
counted_are (field_and (Label name) fields) values outer apart = (tt, counted_are fields values outer apart.2)
counted_are (field_and (Array name count row) fields) values outer apart =
    let rows = length (rows_in (first_value true values)) in
    (array_counted name rows fields (other_values true values) outer (λ key own. apart.0 key (or_first (gives_count name key) (gives_rows row key) own)), counted_are fields (other_values true values) (with_count name rows outer) apart.2)
counted_are (field_and (Switch cases) fields) values outer apart = (tt, counted_are fields (other_values true values) outer apart.2)

-- Names that have the same numbers of rows.

abbrev SameCounts : (Key → Bool) → Environment → Environment → Type 0
SameCounts which one other = (name : List ℕ) → which (count_of name) ≡ true → other.give (count_of name) ≡ one.give (count_of name)

array_moves : (name : Option Word) (rows : ℕ) (one other : Environment) → SameCounts (gives_count name) one other → IsCounted name rows one → IsCounted name rows other
array_moves None rows one other same is = tt
array_moves (Some name) rows one other same is = same _ (key_itself (count_key name.bytes)) ∙ is

field_moves : (field : PlainField) (value : Option Tree) (one other : Environment) → SameCounts (gives_key field) one other → FieldCounted field value one → FieldCounted field value other
field_moves (Number number) value one other same is = tt
field_moves (Text text) value one other same is = tt
field_moves (Points points) value one other same is = tt
field_moves (Fill unit count) value one other same is = tt
field_moves (Align unit) value one other same is = tt
field_moves (Label name) value one other same is = tt
field_moves (Array name count row) value one other same is =
    array_moves name (length (rows_in value)) one other (λ key own. same key (or_first (gives_count name (count_of key)) false own)) is
field_moves (Switch cases) value one other same is = tt

pub counted_moves : (body : PlainBody) (values : List Tree) (one other : Environment) → SameCounts (declares body) one other → AreCounted body values one → AreCounted body values other
counted_moves no_fields values one other same are = tt
counted_moves (field_and field fields) values one other same are = (
  field_moves field (first_value (takes_value field) values) one other (λ name own. same name (or_first (gives_key field (count_of name)) (declares fields (count_of name)) own)) are.0,
  counted_moves fields (other_values (takes_value field) values) one other (λ name own. same name (or_true (gives_key field (count_of name)) (declares fields (count_of name)) own)) are.1,
)
