-- The values of fields and of cases, one more at a time.
use Rattle.std.proofs.Common.{◌≡◌, List, [], ◌∷◌, Ok, Err, refl, ap}
use Rattle.std.specs.declared.result.Result.{Result}
use Rattle.rz_core.specs.Stop.{◌>>=◌}
use Rattle.rz_core.specs.declared.fault.Fault.{Fault}
use Rattle.rz_core.specs.declared.fault.Mark.{Mark}
use Rattle.rz_stmt_type.specs.Constants.{body_value, cases_value, case_value}
use Rattle.rz_stmt_fields.specs.Form as form
use Rattle.rz_stmt_fields.specs.Form.{CaseForm, CasesForm}
use Rattle.rz_core.proofs.SoFar.{before}
use Rattle.rz_types_fields.specs.Field.{body_of, case_and, cases_of, field_and, no_cases, no_fields, PlainBody, PlainCase, PlainCases, PlainField}

-- Fields.

pub all_fields : (fields : List PlainField) → before field_and fields no_fields ≡ body_of fields
all_fields [] = refl
all_fields (field ∷ fields) = ap (field_and field) (all_fields fields)

-- Cases.

abbrev pub with_case : PlainCase → PlainCases → PlainCases
with_case one cases = case_and one.name one.row cases

pub all_cases : (cases : List PlainCase) → before with_case cases no_cases ≡ cases_of cases
all_cases [] = refl
all_cases (one ∷ cases) = ap (with_case one) (all_cases cases)

pub case_first : (mark : Mark) (one : CaseForm) (cases : CasesForm)
    → cases_value mark (form.case_and one.name one.row cases) ≡ (case_value mark one >>= (λ made. cases_value mark cases >>= (λ others. Ok (with_case made others))))
case_first mark one cases = by (body_value mark one.row)
  where
    by : (row : Result PlainBody Fault) → (row >>= (λ fields. cases_value mark cases >>= (λ others. Ok (case_and one.name fields others))))
        ≡ ((row >>= (λ fields. Ok (record { name = one.name; row = fields }))) >>= (λ made. cases_value mark cases >>= (λ others. Ok (with_case made others))))
    by (Ok own) = refl
    by (Err fault) = refl
