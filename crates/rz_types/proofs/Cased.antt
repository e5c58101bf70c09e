-- Cases by their names: what is found by a name is the first case that has it, and the only one where names differ.
use Rattle.std.proofs.Common.{◌≡◌, ℕ, zero, suc, ◌+◌, ◌<◌, ◌≤◌, Bool, true, false, if◌then◌else◌, List, [], ◌∷◌, length, map, drop, get_or, Option, Some, None, refl, sym, ap, subst, ◌∙◌, arith}
use Rattle.std.specs.Prelude.{option_map, slice_get}
use Rattle.std.specs.List.{AllByRecursion}
use Rattle.std.specs.Option.{option_map_or}
use Rattle.std.specs.Str.{str_eq_ignore_ascii_case}
use Rattle.std.proofs.lemmas.Option.{slice_get-map, slice_get_read}
use Rattle.rz_core.proofs.Folds.{same_lower}
use Rattle.rz_core.proofs.Tests.{by_test, true_false}
use Rattle.rz_core.specs.declared.resource.Word.{Word}
use Rattle.rz_types_fields.proofs.Bodies.{array_is, body_next, case_is, cases_end, cases_next}
use Rattle.rz_types_fields.specs.declared.field.ArrayField.{ArrayField}
use Rattle.rz_types_fields.specs.declared.field.Case.{Case}
use Rattle.rz_types_fields.specs.declared.field.Field.{Field}
use Rattle.rz_types_fields.specs.declared.field.Field.TheViews.{out-ArrayField, out-Case}
use Rattle.rz_types_fields.specs.Field.{case_and, cases_of, field_and, no_cases, no_fields, plain_array, plain_body, plain_case, plain_cases, plain_field, Align, Array, Fill, Label, Number, PlainBody, PlainCase, PlainCases, PlainField, Points, Switch, Text}
use Rattle.rz_types.specs.Cases.{case_named, is_named, AreNamesApart, AreNamesApartIn, AreNamesApartWithin}
use Rattle.rz_types.specs.Kept.{AreCasesKept, AreKept, Differ, IsKept, IsKeptWithin}
use Rattle.rz_types.specs.Rules.{case_names}
use Rattle.rz_types.specs.Walk.{and_names, around_names, names_of, Own}

-- What is made of the first case of a name.

module _ {B : Type 0} (name : List ℕ) (made : PlainCases → B) (one : PlainCase → B) (none : B) (empty : made no_cases ≡ none)
    (step : (own : Word) (row : PlainBody) (others : PlainCases) → made (case_and own row others) ≡ (if str_eq_ignore_ascii_case own.bytes name then one (record { name = own; row = row }) else made others)) where
  pub by_case : (cases : PlainCases) → made cases ≡ option_map_or one (case_named name cases) none
  by_case no_cases = empty
  by_case (case_and own row others) = step own row others ∙ by (by_case others) (str_eq_ignore_ascii_case own.bytes name)
    where
      by : made others ≡ option_map_or one (case_named name others) none → (b : Bool) → (if b then one (record { name = own; row = row }) else made others) ≡ option_map_or one (if b then Some (record { name = own; row = row }) else case_named name others) none
      by later true = refl
      by later false = later

-- One that stands at a position.

at_names : (P : Word → Type 0) (cases : List PlainCase) (k : ℕ) (one : PlainCase) → AllByRecursion P (case_names (cases_of cases)) → slice_get cases k ≡ Some one → P one.name
at_names P [] k one all is = absurd cc
at_names P (first ∷ cases) zero one all is = let same : first ≡ one = cc is in subst (λ (c : PlainCase). P c.name) same all.0
at_names P (first ∷ cases) (suc k) one all is = at_names P cases k one all.1 is

same_name : (one other name : List ℕ) → str_eq_ignore_ascii_case one name ≡ true → str_eq_ignore_ascii_case other name ≡ true → str_eq_ignore_ascii_case one other ≡ true
same_name one other name is so = (same_lower one other).1 ((same_lower one name).0 is ∙ sym ((same_lower other name).0 so))

only : (name : List ℕ) (cases : List PlainCase) (k : ℕ) (one : PlainCase) → Differ (case_names (cases_of cases)) → slice_get cases k ≡ Some one → str_eq_ignore_ascii_case one.name.bytes name ≡ true
    → case_named name (cases_of cases) ≡ Some one
only name [] k one differ at is = absurd cc
only name (first ∷ cases) zero one differ at is =
    let same : first ≡ one = cc at in
    ap (λ (b : Bool). if b then Some first else case_named name (cases_of cases)) (subst (λ (c : PlainCase). str_eq_ignore_ascii_case c.name.bytes name ≡ true) (sym same) is)
    ∙ ap (λ (c : PlainCase). Some c) same
only name (first ∷ cases) (suc k) one differ at is =
    ap (λ (b : Bool). if b then Some first else case_named name (cases_of cases))
    (by_test (str_eq_ignore_ascii_case first.name.bytes name ≡ false) (str_eq_ignore_ascii_case first.name.bytes name)
    (λ too. absurd (true_false (sym (same_name first.name.bytes one.name.bytes name too is)
    ∙ at_names (λ (later : Word). str_eq_ignore_ascii_case first.name.bytes later.bytes ≡ false) cases k one differ.0 at)))
    (λ other. other))
    ∙ only name cases k one differ.1 at is

found_so : (name : List ℕ) (cases : List PlainCase) (k : ℕ) → Differ (case_names (cases_of cases)) → (o : Option PlainCase) → slice_get cases k ≡ o → is_named name o ≡ true
    → case_named name (cases_of cases) ≡ o
found_so name cases k differ None at is = absurd cc
found_so name cases k differ (Some one) at is = only name cases k one differ at is

-- a case of the name that stands there is the case of the name, where names differ
pub named_there : (name : List ℕ) (cases : List Case) (k : ℕ) → is_named name (option_map plain_case (slice_get cases k)) ≡ true → Differ (case_names (plain_cases cases))
    → case_named name (plain_cases cases) ≡ option_map plain_case (slice_get cases k)
named_there name cases k is differ =
    found_so name (map plain_case cases) k differ (option_map plain_case (slice_get cases k)) (slice_get-map plain_case cases k) is

pub there_within : (name : List ℕ) (cases : List Case) (k : ℕ) → is_named name (option_map plain_case (slice_get cases k)) ≡ true → k < length cases
there_within name [] k is = absurd cc
there_within name (one ∷ cases) zero is = omega arith
there_within name (one ∷ cases) (suc k) is = let n = there_within name cases k is in omega (arith, n)

-- the case at a position
pub case_at : (cases : List Case) (k : ℕ) (one : Case) → k < length cases → one ≡ get_or cases k one → option_map plain_case (slice_get cases k) ≡ Some (plain_case one)
case_at cases k one less item = ap (option_map plain_case) (slice_get_read cases (length cases) k one refl less item)

-- the case that was found
pub found_case : (name given : List ℕ) (cases : List Case) (k : ℕ) (one : Case) → k < length cases → one ≡ get_or cases k one → given ≡ name
    → case_named given (plain_cases cases) ≡ option_map plain_case (slice_get cases k) → case_named name (plain_cases cases) ≡ Some (plain_case one)
found_case name given cases k one less item same found =
    ap (λ (n : List ℕ). case_named n (plain_cases cases)) (sym same) ∙ found ∙ case_at cases k one less item

-- fields, one more at a time
pub apart_next : (fields : List Field) (i : ℕ) (field : Field) → i < length fields → field ≡ get_or fields i field → AreNamesApart (plain_body (drop i fields))
    → AreNamesApartIn (plain_field field) × AreNamesApart (plain_body (drop (i + 1) fields))
apart_next fields i field less item apart = subst AreNamesApart (body_next fields i field less item) apart

-- the row of an array
pub apart_row : (array : ArrayField) → AreNamesApartIn (plain_array array) → AreNamesApart (plain_body (out-ArrayField array).row)
apart_row array apart = subst AreNamesApartIn (array_is array) apart

-- the row of a case
pub apart_case : (one : Case) → AreNamesApart (plain_case one).row → AreNamesApart (plain_body (out-Case one).row)
apart_case one apart = subst (λ (c : PlainCase). AreNamesApart c.row) (case_is one) apart

-- One case after the other.

module _ (name : List ℕ) (cases : List Case) (i : ℕ) (one : Case) (less : i < length cases) (item : one ≡ get_or cases i one) (total : Option PlainCase)
    (so : case_named name (plain_cases (drop i cases)) ≡ total) where
  abbrev this : PlainCase
  this = record { name = (out-Case one).name; row = plain_body (out-Case one).row }

  first : (if str_eq_ignore_ascii_case (out-Case one).name.bytes name then Some this else case_named name (plain_cases (drop (i + 1) cases))) ≡ total
  first = ap (case_named name) (sym (cases_next cases i one less item)) ∙ so

  pub named_here : str_eq_ignore_ascii_case (out-Case one).name.bytes name ≡ true → total ≡ option_map plain_case (slice_get cases i)
  named_here is =
      sym first
      ∙ ap (λ (b : Bool). if b then Some this else case_named name (plain_cases (drop (i + 1) cases))) is
      ∙ ap (λ (c : PlainCase). Some c) (sym (case_is one))
      ∙ sym (case_at cases i one less item)

  pub named_later : str_eq_ignore_ascii_case (out-Case one).name.bytes name ≡ false → case_named name (plain_cases (drop (i + 1) cases)) ≡ total
  named_later is = sym (ap (λ (b : Bool). if b then Some this else case_named name (plain_cases (drop (i + 1) cases))) is) ∙ first

pub named_never : (name : List ℕ) (cases : List Case) (i : ℕ) (total : Option PlainCase) → length cases ≤ i → case_named name (plain_cases (drop i cases)) ≡ total → total ≡ None
named_never name cases i total past so = sym so ∙ ap (case_named name) (cases_end cases i past)

-- What the rules say.

mutual
  field_apart : (scope : Own) (field : PlainField) → IsKeptWithin scope field → AreNamesApartIn field
  field_apart scope (Number number) kept = tt
  field_apart scope (Text text) kept = tt
  field_apart scope (Points points) kept = tt
  field_apart scope (Fill unit count) kept = tt
  field_apart scope (Align unit) kept = tt
  field_apart scope (Label name) kept = tt
  field_apart scope (Array name count row) kept = body_apart (and_names (and_names scope (around_names name)) (names_of row)) row kept.2
  field_apart scope (Switch cases) kept = (kept.0, cases_apart scope cases kept.1)

  body_apart : (scope : Own) (body : PlainBody) → AreKept scope body → AreNamesApart body
  body_apart scope no_fields kept = tt
  body_apart scope (field_and field fields) kept = (field_apart scope field kept.2, body_apart scope fields kept.3)

  cases_apart : (scope : Own) (cases : PlainCases) → AreCasesKept scope cases → AreNamesApartWithin cases
  cases_apart scope no_cases kept = tt
  cases_apart scope (case_and name row others) kept = (body_apart (and_names scope (names_of row)) row kept.1, cases_apart scope others kept.2)

pub names_apart : (body : PlainBody) → IsKept body → AreNamesApart body
names_apart body kept = body_apart (names_of body) body kept.1

pub apart_within : (name : List ℕ) (cases : PlainCases) (one : PlainCase) → AreNamesApartWithin cases → case_named name cases ≡ Some one → AreNamesApart one.row
apart_within name no_cases one apart is = absurd cc
apart_within name (case_and own row others) one apart is = by (apart_within name others one apart.1) (str_eq_ignore_ascii_case own.bytes name) is
  where
    by : (case_named name others ≡ Some one → AreNamesApart one.row) → (b : Bool) → (if b then Some (record { name = own; row = row }) else case_named name others) ≡ Some one → AreNamesApart one.row
    by later true is = let same : ◌≡◌ {A = PlainCase} (record { name = own; row = row }) one = cc is in subst (λ (c : PlainCase). AreNamesApart c.row) same apart.0
    by later false is = later is
