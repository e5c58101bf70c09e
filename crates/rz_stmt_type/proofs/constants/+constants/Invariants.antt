use Rattle.std.proofs.Common.{◌≡◌, ◌++◌, List, map, reverse, vec_len}
use Rattle.rz_stmt_type.specs.Constants.{body_value, cases_value}
use Rattle.rz_stmt_fields.specs.Form.{body_form, cases_form}
use Rattle.rz_stmt_fields.specs.declared.form.FieldExpr.{FieldExpr}
use Rattle.rz_types_fields.specs.Field.{field_and, plain_case, plain_field}
use Rattle.rz_core.proofs.SoFar.{so_far}
use Rattle.rz_stmt_type.proofs.Bodies.{with_case}
use Rattle.rz_stmt_type.proofs.constants.+constants.Given as goal

abbrev pub invariant-value_body-loop-field : goal.invariant-value_body-loop-field
invariant-value_body-loop-field l = record {
  done : body_value l.mark (body_form l.fn.fields) ≡ so_far field_and (map plain_field l.body) (body_value l.mark (body_form (reverse l.left.items)));
  rest : (before : List FieldExpr) × (l.fn.fields ≡ before ++ reverse l.left.items);
}

abbrev pub decreases-value_body-loop-field : goal.decreases-value_body-loop-field
decreases-value_body-loop-field l = vec_len l.left

abbrev pub invariant-value_cases-loop-case : goal.invariant-value_cases-loop-case
invariant-value_cases-loop-case l = record {
  done : cases_value l.mark (cases_form l.fn.cases) ≡ so_far with_case (map plain_case l.made) (cases_value l.mark (cases_form l.case-iterator.rest.items));
  rest : l.fn.cases ≡ l.yielded ++ l.case-iterator.rest.items;
}
