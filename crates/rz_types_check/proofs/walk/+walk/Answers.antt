use Rattle.std.proofs.Common.{◌≡◌, List, Err, Ok, subst, ◌∙◌}
use Rattle.rz_types_fields.specs.Field.{plain_body, plain_field}
use Rattle.rz_types_fields.specs.declared.field.Field.{Field}
use Rattle.rz_types.specs.Walk.{and_names, around_names, names_of, Own}
use Rattle.rz_types_check.specs.Walked.{all_met, body_met, met_of, own_of, scope_of, Walks}
use Rattle.rz_types_check.proofs.Walks.{cut_again, walk_refused, walked_more}
use Rattle.rz_types_check.proofs.walk.+walk.Goals as goal

pub walk_body-returns : goal.walk_body-returns
walk_body-returns t c = (
  subst (λ (scope : Own). body_met scope (met_of c.args.walk.now) (plain_body c.args.row.now) ≡ Ok (met_of c.walk_fields.new.walk)) c.in_ok-push_names.ensures c.in-Ok.ensures.0,
  cut_again c.args.walk.now.scope (names_of (plain_body c.args.row.now)) (own_of c.walk_fields.new.walk.scope) _ c.counts_of-counts.result c.counts_of-counts.ensures
      (c.in-Ok.ensures.1 ∙ c.in_ok-push_names.ensures) c.cut.ensures,
)

pub walk_array-returns : goal.walk_array-returns
walk_array-returns t c = (
  subst (λ (scope : Own). body_met (and_names scope (names_of (plain_body c.args.array.now.row))) (met_of c.args.walk.now) (plain_body c.args.array.now.row) ≡ Ok (met_of c.walk_body.new.walk))
      c.in_ok-push_around.ensures
      (subst (λ (row : List Field). body_met (and_names (own_of c.push_around.new.names) (names_of (plain_body row))) (met_of c.args.walk.now) (plain_body row) ≡ Ok (met_of c.walk_body.new.walk))
      c.as_slice.ensures c.in-Ok.ensures.0),
  cut_again c.args.walk.now.scope (around_names c.args.array.now.name) (own_of c.walk_body.new.walk.scope) _ c.counts_of-counts.result c.counts_of-counts.ensures
      (c.in-Ok.ensures.1 ∙ c.in_ok-push_around.ensures) c.cut.ensures,
)

pub walk_fields-returns-in-Err : goal.walk_fields-returns-in-Err
walk_fields-returns-in-Err t c =
    walk_refused c.args.fields.now c.loop-field.field-index c.field-item.result c.loop-field-test.true c.field-item.is (scope_of c.args.walk.now) (met_of c.loop-field.walk) _
    c.loop-field.invariant.met c.loop-field.walk c.walk_field.new.walk c.args.walk.now c.walk_field.new.walk c.in-Err.stop
    (subst (λ (scope : Own). Walks (all_met scope (met_of c.loop-field.walk) (plain_field c.field-item.result)) c.loop-field.walk (Err c.in-Err.stop) c.walk_field.new.walk)
    c.loop-field.invariant.scope c.in-Err.ensures)

pub walk_fields-loop-field-preserved : goal.walk_fields-loop-field-preserved
walk_fields-loop-field-preserved t c = record {
  met = walked_more c.args.fields.now c.loop-field.field-index c.field-item.result c.loop-field-test.true c.field-item.is (scope_of c.args.walk.now) (met_of c.loop-field.walk) _
      c.loop-field.invariant.met (met_of c.walk_field.new.walk)
      (subst (λ (scope : Own). all_met scope (met_of c.loop-field.walk) (plain_field c.field-item.result) ≡ Ok (met_of c.walk_field.new.walk)) c.loop-field.invariant.scope c.in-Ok.ensures.0);
  scope = c.in-Ok.ensures.1 ∙ c.loop-field.invariant.scope;
}
