-- Which names have values for certain.
use Rattle.std.specs.Prelude.{◌≡◌, ℕ, ℤ, pos, int_le, true, List, Some, Err}
use Rattle.std.specs.declared.result.Result.{Result}
use Rattle.rz_core.specs.declared.resource.Word.{Word}
use Rattle.rz_expr.specs.Environment.{count_key, place_in, place_key, predefined, row_key, rows_key, rows_of, Environment}
use Rattle.rz_expr.specs.declared.value.EvalFault.{EvalFault}
use Rattle.rz_expr.specs.declared.value.EvalFault.TheVariants.{UnknownName}
use Rattle.rz_types.specs.Walk.{is_among, Own}

-- `true` and `false` have
pub record GivesPredefined (names : Environment) : Type 0 where
  pub give : (name : List ℕ) (value : ℤ) → predefined name ≡ Some value → (given : ℤ) × (names.give (place_key name) ≡ Some given)

-- each of these arrays has a number of rows
pub record GivesCounts (scope : List Word) (names : Environment) : Type 0 where
  pub give : (name : List ℕ) → is_among name scope ≡ true → (rows : ℤ) × (names.give (count_key name) ≡ Some rows)

-- each of these labels has a place
pub record GivesPlaces (scope : List Word) (names : Environment) : Type 0 where
  pub give : (name : List ℕ) → is_among name scope ≡ true → (place : ℤ) × (names.give (place_key name) ≡ Some place)

-- each of these labels in rows has a number of rows
pub record GivesRows (scope : List Word) (names : Environment) : Type 0 where
  pub give : (name : List ℕ) → is_among name scope ≡ true → (rows : ℤ) × (names.give (rows_key name) ≡ Some rows)

-- each of these arrays is around by the number of a row
pub record GivesNumbers (scope : List Word) (names : Environment) : Type 0 where
  pub give : (name : List ℕ) → is_among name scope ≡ true → (number : ℤ) × (names.give (row_key name) ≡ Some number)

-- a label in rows that has a number of rows has a place in each of them
pub record FillsRows (names : Environment) : Type 0 where
  pub give : (label : List ℕ) (rows number : ℤ) → names.give (rows_of label) ≡ Some rows → int_le (pos 1) number ≡ true → int_le number rows ≡ true
      → (place : ℤ) × (names.give (place_in label number) ≡ Some place)

-- each of these labels and arrays has a value, and so have `true` and `false`
pub record GivesOwn (scope : Own) (names : Environment) : Type 0 where
  pub outside : GivesPredefined names
  pub places : GivesPlaces scope.labels names
  pub counts : GivesCounts scope.arrays names
  pub rows : GivesRows scope.indexed names

-- a value, or a fault that isn't that of a name without a value
abbrev pub NamesNothing : Result ℤ EvalFault → Type 0
NamesNothing (Err (UnknownName name)) = ⊥
NamesNothing value = Unit {0}
