use Rattle.std.proofs.Common.{◌≡◌, ◌+◌, ◌++◌, Bool, Bor, false, List, [], ◌∷◌, drop, length, map, refl, sym, ap, subst, ◌∙◌, arith}
use Rattle.std.proofs.lemmas.List.{at_drop_more, drop_all, map-append}
use Rattle.rz_core.proofs.Tests.{true_false}
use Rattle.rz_stmt_brackets.specs.Pieces.{AreCut}
use Rattle.rz_stmt_brackets.specs.declared.pieces.Divider.TheVariants.{Case, Semicolon}
use Rattle.rz_stmt_brackets.proofs.Short.{cut_short, AreShort}
use Rattle.rz_lex.specs.declared.token.Token.{Token}
use Rattle.rz_stmt_type.specs.Body.{cut, cut_cases, flat, key, IsArray, IsBody, IsField, IsSwitch}
use Rattle.rz_stmt_type.specs.Flat.{IsFlat}
use Rattle.rz_stmt_fields.specs.Form.{body_form, case_form, cases_form, field_form, Label}
use Rattle.rz_stmt_fields.specs.declared.form.FieldExpr.{FieldExpr}
use Rattle.rz_stmt_type.specs.Label.{AreLabels}
use Rattle.rz_core.specs.declared.resource.Word.{Word}
use Rattle.rz_stmt_type.specs.Head.{ArrayFront}
use Rattle.rz_stmt_type.specs.Held.{held_array}
use Rattle.rz_stmt_fields.specs.Key.{IsKey}
use Rattle.rz_stmt_fields.proofs.Answering.{found_so}
use Rattle.rz_stmt_type.proofs.CaseLeads.{case_nowhere, cases_all, cases_first, first_empty, no_cases_here, one_case_more, CaseLeads}
use Rattle.rz_stmt_type.proofs.FieldLeads.{field_more, field_nowhere, fields_all, fields_first, labels_more, no_body, skipped, FieldLeads}
use Rattle.rz_stmt_type.proofs.Labels.{labels_short, none_behind}
use Rattle.rz_stmt_fields.proofs.Mirror.{array_is}
use Rattle.rz_stmt_type.proofs.OneHead.{one_array_front}
use Rattle.rz_stmt_type.proofs.Starts.{array_back, array_forth, flat_back, key_back, switch_back, switch_forth}
use Rattle.rz_stmt_type.proofs.body.+body.Goals as goal

-- The array.

pub read_array-returns-in_default : goal.read_array-returns-in_default
read_array-returns-in_default t c field is = let never = rw c.in_default.is at c.in_ok-front.ensures in never is.0 is.2

pub read_array-returns-in_ok-new-in-Ok-Some : goal.read_array-returns-in_ok-new-in-Ok-Some
read_array-returns-in_ok-new-in-Ok-Some t c = (
  held_array c.in-Some.front,
  body_form c.in-Ok-Some.row,
  rw c.in-Some.is at c.in_ok-front.ensures,
  rw c.in-Ok-Some.field-0-is at c.in-Ok-Some.ensures,
  array_is c.in_ok-new-in-Ok-Some.field-0 c.in-Some.front.name c.in-Some.front.count c.in-Ok-Some.row c.in_ok-new-in-Ok-Some.ensures.ok,
)

pub read_array-returns-in-Ok-None : goal.read_array-returns-in-Ok-None
read_array-returns-in-Ok-None t c field is =
    let same = one_array_front c.pieces_are_cut.ensures.within c.one_expression.ensures.expression c.args.tokens.now is.0 (held_array c.in-Some.front) is.2
    (rw c.in-Some.is at c.in_ok-front.ensures) in
    let never = rw c.in-Ok-None.field-0-is at c.in-Ok-None.ensures in
    never is.1 (subst (λ (front : ArrayFront). IsBody false front.row is.1) same is.3)

-- The body.

pub read_body-loop-piece-init : goal.read_body-loop-piece-init
read_body-loop-piece-init t c =
    let all = map (λ piece. piece.now) c.deref-piece-items.result.now in record {
      leads = subst (FieldLeads c.args.in_case all all) (sym (ap (map field_form) c.new-body.ensures)) (fields_first c.args.in_case all);
      short = cut_short Semicolon c.args.tokens.now all
          (subst (λ (ps : List (Bor (List Token))). AreCut Semicolon c.args.tokens.now (map (λ piece. piece.now) ps)) (sym c.deref-piece-items.ensures.value) c.in_ok-pieces.ensures.cut);
    }

-- a piece without its labels
at_labels : (in_case : Bool) (all rest others : List (List Token)) (fields : List FieldExpr) (piece behind : List Token) (after : List FieldExpr)
    → FieldLeads in_case all rest (map field_form fields) → rest ≡ piece ∷ others
    → (names : List Word) × AreLabels piece names behind × (map field_form after ≡ map field_form fields ++ map Label names)
    → FieldLeads in_case all (behind ∷ others) (map field_form after)
at_labels in_case all rest others fields piece behind after leads are passed =
    subst (FieldLeads in_case all (behind ∷ others)) (sym passed.2)
    (labels_more in_case all others piece passed.0 behind (map field_form fields) passed.1
    (subst (λ (ps : List (List Token)). FieldLeads in_case all ps (map field_form fields)) are leads))

pub read_body-read_field-requires : goal.read_body-read_field-requires
read_body-read_field-requires t c =
    let pieces = c.deref-piece-items.result.now in
    let i = c.loop-piece.piece-index in
    let d = c.piece-item.result in
    let are = at_drop_more (map (λ piece. piece.now)) pieces i d c.loop-piece-test.true ∙ ap (λ piece. piece.now ∷ map (λ piece. piece.now) (drop (i + 1) pieces)) (sym c.piece-item.is) in
    let piece_few = (subst (AreShort (length c.args.tokens.now)) are c.loop-piece.invariant.short).0 in
    let passed = c.in_ok-rest.ensures in
    let few = labels_short d.now passed.0 c.in_ok-rest.rest.now passed.1 in
    (omega (arith, c.decreases, few, piece_few), tt)

pub read_body-loop-piece-preserved-then-is_empty : goal.read_body-loop-piece-preserved-then-is_empty
read_body-loop-piece-preserved-then-is_empty t c =
    let pieces = c.deref-piece-items.result.now in
    let i = c.loop-piece.piece-index in
    let d = c.piece-item.result in
    let are = at_drop_more (map (λ piece. piece.now)) pieces i d c.loop-piece-test.true ∙ ap (λ piece. piece.now ∷ map (λ piece. piece.now) (drop (i + 1) pieces)) (sym c.piece-item.is) in
    let leads = at_labels c.args.in_case (map (λ piece. piece.now) pieces) (map (λ piece. piece.now) (drop i pieces)) (map (λ piece. piece.now) (drop (i + 1) pieces))
    c.loop-piece.body d.now c.in_ok-rest.rest.now c.read_labels.new.body c.loop-piece.invariant.leads are c.in_ok-rest.ensures in record {
      leads = skipped c.args.in_case (map (λ piece. piece.now) pieces) (c.in_ok-rest.rest.now ∷ map (λ piece. piece.now) (drop (i + 1) pieces))
          (map (λ piece. piece.now) (drop (i + 1) pieces)) (map field_form c.read_labels.new.body) leads c.in_ok-rest.rest.now refl (sym c.if-is_empty.ensures);
      short = (subst (AreShort (length c.args.tokens.now)) are c.loop-piece.invariant.short).1;
    }

pub read_body-loop-piece-preserved : goal.read_body-loop-piece-preserved
read_body-loop-piece-preserved t c =
    let pieces = c.deref-piece-items.result.now in
    let i = c.loop-piece.piece-index in
    let d = c.piece-item.result in
    let are = at_drop_more (map (λ piece. piece.now)) pieces i d c.loop-piece-test.true ∙ ap (λ piece. piece.now ∷ map (λ piece. piece.now) (drop (i + 1) pieces)) (sym c.piece-item.is) in
    let leads = at_labels c.args.in_case (map (λ piece. piece.now) pieces) (map (λ piece. piece.now) (drop i pieces)) (map (λ piece. piece.now) (drop (i + 1) pieces))
    c.loop-piece.body d.now c.in_ok-rest.rest.now c.read_labels.new.body c.loop-piece.invariant.leads are c.in_ok-rest.ensures in
    let passed = c.in_ok-rest.ensures in record {
      leads = field_more c.args.in_case (map (λ piece. piece.now) pieces) (c.in_ok-rest.rest.now ∷ map (λ piece. piece.now) (drop (i + 1) pieces))
          (map (λ piece. piece.now) (drop (i + 1) pieces)) (map field_form c.read_labels.new.body) leads c.in_ok-rest.rest.now refl (sym c.if-is_empty.ensures)
          (none_behind d.now passed.0 c.in_ok-rest.rest.now passed.1)
          (field_form c.in-Some.field) (map field_form c.push.new.self) (rw c.in-Some.is at c.in_ok-field.ensures)
          (ap (map field_form) c.in_ok-push.ensures.ok ∙ map-append field_form c.read_labels.new.body (c.in-Some.field ∷ []));
      short = (subst (AreShort (length c.args.tokens.now)) are c.loop-piece.invariant.short).1;
    }

pub read_body-returns-in_default : goal.read_body-returns-in_default
read_body-returns-in_default t c =
    let pieces = c.deref-piece-items.result.now in
    let i = c.loop-piece.piece-index in
    let d = c.piece-item.result in
    let are = at_drop_more (map (λ piece. piece.now)) pieces i d c.loop-piece-test.true ∙ ap (λ piece. piece.now ∷ map (λ piece. piece.now) (drop (i + 1) pieces)) (sym c.piece-item.is) in
    let leads = at_labels c.args.in_case (map (λ piece. piece.now) pieces) (map (λ piece. piece.now) (drop i pieces)) (map (λ piece. piece.now) (drop (i + 1) pieces))
    c.loop-piece.body d.now c.in_ok-rest.rest.now c.read_labels.new.body c.loop-piece.invariant.leads are c.in_ok-rest.ensures in
    let passed = c.in_ok-rest.ensures in
    no_body c.args.in_case c.args.tokens.now (map (λ piece. piece.now) pieces)
    (λ others is. ap (map (λ piece. piece.now)) c.deref-piece-items.ensures.value ∙ c.in_ok-pieces.ensures.every others is)
    (field_nowhere c.args.in_case (map (λ piece. piece.now) pieces) (c.in_ok-rest.rest.now ∷ map (λ piece. piece.now) (drop (i + 1) pieces))
    (map (λ piece. piece.now) (drop (i + 1) pieces)) (map field_form c.read_labels.new.body) leads c.in_ok-rest.rest.now refl (sym c.if-is_empty.ensures)
    (none_behind d.now passed.0 c.in_ok-rest.rest.now passed.1) (rw c.in_default.is at c.in_ok-field.ensures))

pub read_body-returns : goal.read_body-returns
read_body-returns t c =
    let pieces = c.deref-piece-items.result.now in
    cut c.args.in_case c.args.tokens.now (map (λ piece. piece.now) pieces) (body_form c.loop-piece.body)
    (subst (λ (ps : List (Bor (List Token))). AreCut Semicolon c.args.tokens.now (map (λ piece. piece.now) ps)) (sym c.deref-piece-items.ensures.value) c.in_ok-pieces.ensures.cut)
    (fields_all c.args.in_case (map (λ piece. piece.now) pieces) (map (λ piece. piece.now) (drop c.loop-piece.piece-index pieces)) (map field_form c.loop-piece.body)
    c.loop-piece.invariant.leads (ap (map (λ piece. piece.now)) (drop_all c.loop-piece.piece-index pieces c.loop-piece-test.false)))

-- The cases.

pub read_cases-loop-piece-init : goal.read_cases-loop-piece-init
read_cases-loop-piece-init t c =
    let all = map (λ piece. piece.now) c.in-Some.behind.now in
    let pieces = map (λ piece. piece.now) c.deref.result.now in record {
      leads = subst (CaseLeads all all) (sym (ap (map case_form) c.new-cases.ensures)) (cases_first all);
      short = (subst (AreShort (length c.args.tokens.now)) (first_empty pieces all (sym c.in-Some.ensures))
          (cut_short Case c.args.tokens.now pieces
          (subst (λ (ps : List (Bor (List Token))). AreCut Case c.args.tokens.now (map (λ piece. piece.now) ps)) (sym c.deref.ensures.value) c.in_ok-pieces.ensures.cut))).1;
    }

pub read_cases-loop-piece-preserved : goal.read_cases-loop-piece-preserved
read_cases-loop-piece-preserved t c =
    let pieces = c.in-Some.behind.now in
    let i = c.loop-piece.piece-index in
    let d = c.piece-item.result in
    let are = at_drop_more (map (λ piece. piece.now)) pieces i d c.loop-piece-test.true ∙ ap (λ piece. piece.now ∷ map (λ piece. piece.now) (drop (i + 1) pieces)) (sym c.piece-item.is) in record {
      leads = one_case_more (map (λ piece. piece.now) pieces) (map (λ piece. piece.now) (drop i pieces)) (map (λ piece. piece.now) (drop (i + 1) pieces))
          (map case_form c.loop-piece.cases) d.now c.loop-piece.invariant.leads are
          (case_form c.in-Some-2.case) (map case_form c.push.new.self) (rw c.in-Some-2.is at c.in_ok-case.ensures)
          (ap (map case_form) c.in_ok-push.ensures.ok ∙ map-append case_form c.loop-piece.cases (c.in-Some-2.case ∷ []));
      short = (subst (AreShort (length c.args.tokens.now)) are c.loop-piece.invariant.short).1;
    }

pub read_cases-returns-in_default-2 : goal.read_cases-returns-in_default-2
read_cases-returns-in_default-2 t c =
    let pieces = c.in-Some.behind.now in
    let i = c.loop-piece.piece-index in
    let d = c.piece-item.result in
    no_cases_here c.args.tokens.now (map (λ piece. piece.now) c.deref.result.now)
    (λ others is. ap (map (λ piece. piece.now)) c.deref.ensures.value ∙ c.in_ok-pieces.ensures.every others is)
    (map (λ piece. piece.now) pieces) (sym c.in-Some.ensures)
    (case_nowhere (map (λ piece. piece.now) pieces) (map (λ piece. piece.now) (drop i pieces)) (map (λ piece. piece.now) (drop (i + 1) pieces))
    (map case_form c.loop-piece.cases) d.now c.loop-piece.invariant.leads
    (at_drop_more (map (λ piece. piece.now)) pieces i d c.loop-piece-test.true ∙ ap (λ piece. piece.now ∷ map (λ piece. piece.now) (drop (i + 1) pieces)) (sym c.piece-item.is))
    (rw c.in_default-2.is at c.in_ok-case.ensures))

pub read_cases-returns : goal.read_cases-returns
read_cases-returns t c =
    let pieces = c.in-Some.behind.now in
    cut_cases c.args.tokens.now (map (λ piece. piece.now) pieces) (cases_form c.loop-piece.cases)
    (subst (AreCut Case c.args.tokens.now) (first_empty (map (λ piece. piece.now) c.deref.result.now) (map (λ piece. piece.now) pieces) (sym c.in-Some.ensures))
    (subst (λ (ps : List (Bor (List Token))). AreCut Case c.args.tokens.now (map (λ piece. piece.now) ps)) (sym c.deref.ensures.value) c.in_ok-pieces.ensures.cut))
    (cases_all (map (λ piece. piece.now) pieces) (map (λ piece. piece.now) (drop c.loop-piece.piece-index pieces)) (map case_form c.loop-piece.cases)
    c.loop-piece.invariant.leads (ap (map (λ piece. piece.now)) (drop_all c.loop-piece.piece-index pieces c.loop-piece-test.false)))

-- The field.

pub read_field-returns-then-in_case : goal.read_field-returns-then-in_case
read_field-returns-then-in_case t c =
    let tokens = c.args.tokens.now in
    let behind = c.in-Key.behind.now in
    found_so field_form (IsField c.args.in_case tokens) (IsKey behind)
    (λ field is. subst (λ (b : Bool). IsField b tokens field) (sym c.if-in_case.true) (key tokens behind field (sym c.in-Key.ensures) is))
    (λ field is. (key_back tokens behind c.args.in_case field (sym c.in-Key.ensures) is).1)
    c.read_key.result c.read_key.ensures

pub read_field-returns-else-in_case : goal.read_field-returns-else-in_case
read_field-returns-else-in_case t c field is =
    true_false (sym (key_back c.args.tokens.now c.in-Key.behind.now c.args.in_case field (sym c.in-Key.ensures) is).0 ∙ c.if-in_case.false)

pub read_field-returns-in-Array : goal.read_field-returns-in-Array
read_field-returns-in-Array t c =
    let tokens = c.args.tokens.now in
    let behind = c.in-Array.behind.now in
    let start = sym c.in-Array.ensures in
    found_so field_form (IsField c.args.in_case tokens) (IsArray behind) (λ field. array_forth tokens behind c.args.in_case field start)
    (λ field. array_back tokens behind c.args.in_case field start) c.read_array.result c.read_array.ensures

pub read_field-returns-in-Switch : goal.read_field-returns-in-Switch
read_field-returns-in-Switch t c =
    let tokens = c.args.tokens.now in
    let behind = c.in-Switch.behind.now in
    let start = sym c.in-Switch.ensures in
    found_so field_form (IsField c.args.in_case tokens) (IsSwitch behind) (λ field. switch_forth tokens behind c.args.in_case field start)
    (λ field. switch_back tokens behind c.args.in_case field start) c.read_switch.result c.read_switch.ensures

pub read_field-returns-in-Flat : goal.read_field-returns-in-Flat
read_field-returns-in-Flat t c =
    let tokens = c.args.tokens.now in
    found_so field_form (IsField c.args.in_case tokens) (IsFlat tokens) (flat c.args.in_case tokens)
    (λ field. flat_back tokens c.args.in_case field (sym c.in-Flat.ensures)) c.read_flat.result c.read_flat.ensures

-- The switch.

pub read_switch-returns-in_default : goal.read_switch-returns-in_default
read_switch-returns-in_default t c field is = c.in_default.ensures is.0 is.2
