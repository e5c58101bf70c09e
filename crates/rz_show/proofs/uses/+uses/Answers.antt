use denote.Param.Weighed.{at_most, most}
use Rattle.std.proofs.Common.{◌≡◌, ℕ, Bool, List, IfOk, sym, ap, subst, ◌∙◌, arith}
use Rattle.std.specs.Prelude.{option_map}
use Rattle.rz_types_fields.specs.Spells.{choice_in}
use Rattle.rz_types_fields.specs.declared.field.Field.{Field}
use Rattle.rz_types_fields.specs.declared.field.Field.TheViews.{size-Case, size-Field, size_is-Case}
use Rattle.rz_types.proofs.Cased.{apart_case, apart_next, apart_within, found_case}
use Rattle.rz_types.specs.Cases.{case_named, AreNamesApart}
use Rattle.rz_types.specs.Field.{plain_body, plain_case, plain_cases}
use Rattle.rz_show.specs.Hidden.{hides}
use Rattle.rz_show.proofs.Cased.{uses_none, uses_some}
use Rattle.rz_show.proofs.uses.+uses.Goals as goal

pub row_uses-field_uses-requires : goal.row_uses-field_uses-requires
row_uses-field_uses-requires t c =
    let field = c.field-item.result in
    let deep = at_most size-Field c.args.fields.now c.loop-field.field-index field c.loop-field-test.true in
    let same = ap size-Field c.field-item.is in
    (omega (arith, c.decreases, deep, same), (apart_next c.args.fields.now c.loop-field.field-index field c.loop-field-test.true c.field-item.is c.loop-field.invariant.apart).0)

pub case_uses-choice_uses-requires : goal.case_uses-choice_uses-requires
case_uses-choice_uses-requires t c =
    let name = choice_in (option_map (λ v. v.now) c.args.value) in
    let one = c.index-cases-position.result in
    let deep = at_most size-Case c.args.cases.now c.in-Some.position one c.in-Some.ensures.within in
    let same = ap size-Case c.index-cases-position.is in (
      omega (arith, c.decreases, deep, same),
      apart_within name (plain_cases c.args.cases.now) (plain_case one) c.requires.apart
          (found_case name c.choice_in.result.now c.args.cases.now c.in-Some.position one c.in-Some.ensures.within c.index-cases-position.is c.choice_in.ensures
          (c.in-Some.ensures.named c.requires.differ)),
    )

pub case_uses-returns-in-Some : goal.case_uses-returns-in-Some
case_uses-returns-in-Some t c =
    let value = option_map (λ v. v.now) c.args.value in
    subst (λ (b : Bool). IfOk c.choice_uses.result (λ uses. uses ≡ b))
    (sym (uses_some (hides c.args.hidden.now) value (plain_cases c.args.cases.now) (plain_case c.index-cases-position.result)
    (found_case (choice_in value) c.choice_in.result.now c.args.cases.now c.in-Some.position c.index-cases-position.result c.in-Some.ensures.within c.index-cases-position.is c.choice_in.ensures
    (c.in-Some.ensures.named c.requires.differ))))
    c.choice_uses.ensures

pub case_uses-returns-in-None : goal.case_uses-returns-in-None
case_uses-returns-in-None t c =
    let value = option_map (λ v. v.now) c.args.value in
    sym (uses_none (hides c.args.hidden.now) value (plain_cases c.args.cases.now)
    (ap (λ (n : List ℕ). case_named n (plain_cases c.args.cases.now)) (sym c.choice_in.ensures) ∙ c.in-None.ensures.named c.requires.differ))

pub choice_uses-row_uses-requires : goal.choice_uses-row_uses-requires
choice_uses-row_uses-requires t c =
    let deep = size_is-Case c.args.case.now in
    let same = ap (most size-Field) c.as_slice-2.ensures in
    (omega (arith, c.decreases, deep, same), subst (λ (fields : List Field). AreNamesApart (plain_body fields)) (sym c.as_slice-2.ensures) (apart_case c.args.case.now c.requires))
