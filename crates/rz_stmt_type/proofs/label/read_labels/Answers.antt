use Rattle.std.proofs.Common.{[], ◌∷◌, ◌++◌, map, sym, ap, ◌∙◌}
use Rattle.std.proofs.lemmas.List.{map-append}
use Rattle.rz_core.specs.declared.resource.Word.{Word}
use Rattle.rz_stmt_fields.specs.Form.{field_form, FieldForm, Label}
use Rattle.rz_stmt_fields.specs.declared.form.FieldExpr.TheVariants as fields
use Rattle.rz_stmt_fields.proofs.Mirror.{label_is}
use Rattle.rz_stmt_type.specs.Held.{held_label}
use Rattle.rz_stmt_type.proofs.LabelLeads.{all_passed, behind_shorter, none_passed, one_more_passed}
use Rattle.rz_stmt_type.proofs.label.read_labels.Goals as goal

pub loop-front-init : goal.loop-front-init
loop-front-init c = none_passed c.args.tokens.now (map field_form c.args.body.now)

pub loop-front-smaller : goal.loop-front-smaller
loop-front-smaller c = behind_shorter c.loop-front.rest.now (held_label c.in-Some.front) (sym c.in-Some.ensures)

pub loop-front-preserved : goal.loop-front-preserved
loop-front-preserved c =
    one_more_passed c.args.tokens.now c.loop-front.rest.now (map field_form c.args.body.now) (map field_form c.loop-front.body) c.loop-front.invariant
    (held_label c.in-Some.front) (sym c.in-Some.ensures) (map field_form c.push.new.self)
    (ap (map field_form) c.in_ok-push.ensures.ok ∙ map-append field_form c.loop-front.body (fields.Label c.in_ok-copy.field-0 ∷ [])
    ∙ ap (λ (field : FieldForm). map field_form c.loop-front.body ++ field ∷ []) (label_is c.in_ok-copy.field-0 ∙ ap (λ (name : Word). Label name) c.in_ok-copy.ensures))

pub returns : goal.returns
returns c =
    all_passed c.args.tokens.now c.loop-front.rest.now (map field_form c.args.body.now) (map field_form c.loop-front.body) c.loop-front.invariant
    (sym c.in_default.ensures)
