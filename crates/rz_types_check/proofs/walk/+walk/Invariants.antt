use Rattle.std.proofs.Common.{◌≡◌, [], drop}
use Rattle.rz_types_fields.specs.Field.{plain_body, plain_cases}
use Rattle.rz_types_check.specs.Walked.{body_met, cases_met, met_of, scope_of}
use Rattle.rz_types_check.proofs.walk.+walk.Given as goal

abbrev pub invariant-walk_fields-loop-field : goal.invariant-walk_fields-loop-field
invariant-walk_fields-loop-field l = record {
  met : body_met (scope_of l.fn.walk) (met_of l.walk) (plain_body (drop l.field-index l.fields)) ≡ body_met (scope_of l.fn.walk) (met_of l.fn.walk) (plain_body l.fields);
  scope : scope_of l.walk ≡ scope_of l.fn.walk;
}

abbrev pub invariant-walk_cases-loop-case : goal.invariant-walk_cases-loop-case
invariant-walk_cases-loop-case l = record {
  met : cases_met (scope_of l.fn.walk) l.position l.keys.list.items (met_of l.walk) (plain_cases (drop l.case-index l.cases))
      ≡ cases_met (scope_of l.fn.walk) l.position [] (met_of l.fn.walk) (plain_cases l.cases);
  scope : scope_of l.walk ≡ scope_of l.fn.walk;
}
