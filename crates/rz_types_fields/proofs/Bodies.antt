-- The fields of a body and the cases of a switch, one more at a time.
use Rattle.std.proofs.Common.{◌≡◌, ℕ, ◌+◌, ◌<◌, ◌≤◌, List, length, get_or, drop, sym, ap, ◌∙◌}
use Rattle.std.proofs.lemmas.List.{drop_all, drop_more}
use Rattle.rz_types_fields.specs.Field.{array_step, case_and, case_step, field_and, field_step, no_cases, no_fields, plain_array, plain_body, plain_case, plain_cases, plain_field, Array, PlainCase, PlainField}
use Rattle.rz_types_fields.specs.declared.field.ArrayField.{ArrayField}
use Rattle.rz_types_fields.specs.declared.field.Case.{Case}
use Rattle.rz_types_fields.specs.declared.field.Field.{Field}
use Rattle.rz_types_fields.specs.declared.field.Field.TheFolds.{fold_out-ArrayField, fold_out-Case}
use Rattle.rz_types_fields.specs.declared.field.Field.TheViews.{out-ArrayField, out-Case}

pub array_is : (array : ArrayField) → plain_array array ≡ Array (out-ArrayField array).name (out-ArrayField array).count (plain_body (out-ArrayField array).row)
array_is array = fold_out-ArrayField PlainField PlainField PlainCase field_step array_step case_step array

pub case_is : (one : Case) → plain_case one ≡ record { name = (out-Case one).name; row = plain_body (out-Case one).row }
case_is one = fold_out-Case PlainField PlainField PlainCase field_step array_step case_step one

pub body_next : (fields : List Field) (i : ℕ) (field : Field) → i < length fields → field ≡ get_or fields i field
    → plain_body (drop i fields) ≡ field_and (plain_field field) (plain_body (drop (i + 1) fields))
body_next fields i field less item = ap plain_body (drop_more fields i field less) ∙ ap (λ (f : Field). field_and (plain_field f) (plain_body (drop (i + 1) fields))) (sym item)

pub body_end : (fields : List Field) (i : ℕ) → length fields ≤ i → plain_body (drop i fields) ≡ no_fields
body_end fields i past = ap plain_body (drop_all i fields past)

pub cases_next : (cases : List Case) (i : ℕ) (one : Case) → i < length cases → one ≡ get_or cases i one
    → plain_cases (drop i cases) ≡ case_and (out-Case one).name (plain_body (out-Case one).row) (plain_cases (drop (i + 1) cases))
cases_next cases i one less item =
    ap plain_cases (drop_more cases i one less)
    ∙ ap (λ (c : Case). case_and (plain_case c).name (plain_case c).row (plain_cases (drop (i + 1) cases))) (sym item)
    ∙ ap (λ (c : PlainCase). case_and c.name c.row (plain_cases (drop (i + 1) cases))) (case_is one)

pub cases_end : (cases : List Case) (i : ℕ) → length cases ≤ i → plain_cases (drop i cases) ≡ no_cases
cases_end cases i past = ap plain_cases (drop_all i cases past)
