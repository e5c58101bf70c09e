use Rattle.std.proofs.Common.{◌≡◌, List, [], ◌∷◌, ◌++◌, map, reverse, Ok, sym, ap, ◌∙◌, append_assoc}
use Rattle.std.proofs.lemmas.List.{map-append, nil_from_length, reverse-append}
use Rattle.rz_stmt_type.specs.Constants.{body_value, cases_value, case_value, field_value}
use Rattle.rz_stmt_fields.specs.Form.{body_form, case_form, cases_form, field_form}
use Rattle.rz_stmt_fields.specs.declared.form.CaseExpr.{CaseExpr}
use Rattle.rz_stmt_fields.specs.declared.form.FieldExpr.{FieldExpr}
use Rattle.rz_types_fields.specs.Field.{field_and, plain_case, plain_field, PlainBody, PlainCases}
use Rattle.rz_core.proofs.SoFar.{one_more, so_far}
use Rattle.rz_stmt_type.proofs.Bodies.{all_cases, all_fields, case_first, with_case}
use Rattle.rz_stmt_type.proofs.constants.+constants.Goals as goal

pub value_body-loop-field-preserved : goal.value_body-loop-field-preserved
value_body-loop-field-preserved t c =
    let loop = c.loop-field in
    let field = c.in-Some.field in
    let left = c.give_back.new.left.items in
    let before = loop.invariant.rest.0 in
    let next : reverse loop.left.items ≡ field ∷ reverse left =
    ap reverse c.in-Some.ensures.items ∙ reverse-append c.pop.new.self.items (field ∷ []) ∙ ap (λ (l : List FieldExpr). field ∷ reverse l) (sym c.give_back.ensures) in record {
      done = one_more field_and (body_value c.args.mark (body_form c.args.fields)) (map plain_field loop.body) (field_value c.args.mark (field_form field))
          (body_value c.args.mark (body_form (reverse left)))
          (loop.invariant.done ∙ ap (λ (l : List FieldExpr). so_far field_and (map plain_field loop.body) (body_value c.args.mark (body_form l))) next)
          (plain_field c.in-Ok.field) (map plain_field c.push.new.self) c.in-Ok.ensures
          (ap (map plain_field) c.in_ok-push-in-Ok.ensures.ok ∙ map-append plain_field loop.body (c.in-Ok.field ∷ []));
      rest = (
        before ++ field ∷ [],
        loop.invariant.rest.1 ∙ ap (λ (l : List FieldExpr). before ++ l) next ∙ sym (append_assoc before (field ∷ []) (reverse left)),
      );
    }

pub value_body-returns : goal.value_body-returns
value_body-returns t c =
    let loop = c.loop-field in
    loop.invariant.done ∙ ap (λ (l : List FieldExpr). so_far field_and (map plain_field loop.body) (body_value c.args.mark (body_form (reverse l))))
    (nil_from_length loop.left.items (sym loop.left.ok.0 ∙ c.in_default.ensures.cases.0))
    ∙ ap (λ (body : PlainBody). Ok body) (all_fields (map plain_field loop.body))

pub value_cases-loop-case-preserved : goal.value_cases-loop-case-preserved
value_cases-loop-case-preserved t c =
    let loop = c.loop-case in
    let rest = c.next.new.self.rest.items in record {
      done = one_more with_case (cases_value c.args.mark (cases_form c.args.cases)) (map plain_case loop.made) (case_value c.args.mark (case_form c.in-Some.case))
          (cases_value c.args.mark (cases_form rest))
          (loop.invariant.done ∙ ap (λ (l : List CaseExpr). so_far with_case (map plain_case loop.made) (cases_value c.args.mark (cases_form l))) c.in-Some.ensures.steps.0
          ∙ ap (so_far with_case (map plain_case loop.made)) (case_first c.args.mark (case_form c.in-Some.case) (cases_form rest)))
          (plain_case c.in-Ok.case) (map plain_case c.push.new.self) c.in-Ok.ensures
          (ap (map plain_case) c.in_ok-push-in-Ok.ensures.ok ∙ map-append plain_case loop.made (c.in-Ok.case ∷ []));
      rest = loop.invariant.rest ∙ ap (λ (l : List CaseExpr). loop.yielded ++ l) c.in-Some.ensures.steps.0 ∙ sym (append_assoc loop.yielded (c.in-Some.case ∷ []) rest);
    }

pub value_cases-returns : goal.value_cases-returns
value_cases-returns t c =
    let loop = c.loop-case in
    loop.invariant.done ∙ ap (λ (l : List CaseExpr). so_far with_case (map plain_case loop.made) (cases_value c.args.mark (cases_form l)))
    (nil_from_length loop.case-iterator.rest.items (sym loop.case-iterator.rest.ok.0 ∙ c.in-None.ensures.steps.0))
    ∙ ap (λ (cases : PlainCases). Ok cases) (all_cases (map plain_case loop.made))
