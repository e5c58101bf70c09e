-- The names of a body that keeps the rules differ.
use Rattle.rz_types_fields.specs.Field.{case_and, field_and, no_cases, no_fields, Align, Array, Fill, Label, Number, PlainBody, PlainCases, PlainField, Points, Switch, Text}
use Rattle.rz_types.proofs.OwnNames.{apart_field, rest_own}
use Rattle.rz_types.specs.Kept.{AreCasesKept, AreKept, AreOwn, Differ, IsKept, IsKeptWithin}
use Rattle.rz_types.specs.Rules.{case_names}
use Rattle.rz_types.specs.Walk.{and_names, around_names, names_of, Own}
use Rattle.rz_layout.proofs.Counts.{AreApart, AreCasesApart, IsApart}

mutual
  field_apart : (scope : Own) (field : PlainField) → IsKeptWithin scope field → IsApart field
  field_apart scope (Number number) kept = tt
  field_apart scope (Text text) kept = tt
  field_apart scope (Points points) kept = tt
  field_apart scope (Fill unit count) kept = tt
  field_apart scope (Align unit) kept = tt
  field_apart scope (Label name) kept = tt
  field_apart scope (Array name count row) kept = body_apart (and_names (and_names scope (around_names name)) (names_of row)) row kept.1 kept.2
  field_apart scope (Switch cases) kept = cases_apart scope cases kept.0 kept.1

  cases_apart : (scope : Own) (cases : PlainCases) → Differ (case_names cases) → AreCasesKept scope cases → AreCasesApart cases
  cases_apart scope no_cases differ kept = tt
  cases_apart scope (case_and name row others) differ kept =
      (differ.0, body_apart (and_names scope (names_of row)) row kept.0 kept.1, cases_apart scope others differ.1 kept.2)

  pub body_apart : (scope : Own) (body : PlainBody) → AreOwn (names_of body) → AreKept scope body → AreApart body
  body_apart scope no_fields own kept = tt
  body_apart scope (field_and field fields) own kept = (apart_field field fields own, field_apart scope field kept.2, body_apart scope fields (rest_own field fields own) kept.3)

pub kept_apart : (body : PlainBody) → IsKept body → AreApart body
kept_apart body kept = body_apart (names_of body) body kept.0 kept.1
