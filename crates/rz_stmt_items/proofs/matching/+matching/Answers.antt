use denote.Param.Weighed.{at_most, most}
use Rattle.std.proofs.Common.{rules, ◌≡◌, ℕ, suc, ◌+◌, ◌-◌, ◌<◌, List, drop, length, Err, sym, ap, subst, ◌∙◌, arith}
use Rattle.std.proofs.lemmas.List.{length-map}
use Rattle.std.specs.declared.result.Result.{Result}
use Rattle.rz_core.specs.Stop.{Gives}
use Rattle.rz_core.specs.declared.fault.Fault.{Fault}
use Rattle.rz_stmt_items.specs.Item.{plain_item, plain_items, PlainItem}
use Rattle.rz_stmt_items.specs.Line.{line_of}
use Rattle.rz_stmt_items.specs.Matched.{case_matched, item_for, named_matched, row_matched, rows_matched}
use Rattle.rz_stmt_items.proofs.Cased.{matched_none, matched_some}
use Rattle.rz_stmt_items.proofs.Given.{array_is, array_refused, array_rows, braced, items_from, listed, named, row_given, row_refused}
use Rattle.rz_stmt_items.proofs.Steps.{rows_behind}
use Rattle.rz_types_fields.specs.declared.field.Field.TheViews.{out-ArrayField, size-Case, size-Field, size_is-ArrayField, size_is-Case}
use Rattle.rz_types_fields.specs.declared.field.Field.{Field}
use Rattle.rz_types_fields.specs.declared.tree.Tree.{Tree}
use Rattle.rz_types.specs.Cases.{case_named, AreNamesApart}
use Rattle.rz_types.specs.Field.{plain_body, plain_case, plain_cases, PlainField}
use Rattle.rz_types.proofs.Cased.{apart_case, apart_next, apart_row, apart_within, found_case}
use Rattle.rz_stmt_items.proofs.matching.+matching.Goals as goal

pub array_for-returns-in-Ok : goal.array_for-returns-in-Ok
array_for-returns-in-Ok t c =
    let array = out-ArrayField c.args.array.now in
    let is = ap plain_item c.in-List.is ∙ braced c.in-List.items c.in-List.mark in
    let given = (λ i. rows_matched (row_matched c.args.facts.now (plain_body (sym c.as_slice.ensures i)) c.in-List.mark (plain_items (sym c.as_slice-in-List.ensures i)))
    (length-map (sym c.as_slice-in-List.ensures i) plain_item i) 0 (plain_items (sym c.as_slice-in-List.ensures i))) ∙ c.in-Ok.ensures in
    subst (λ (r : Result Tree Fault). Gives r c.counted.result)
    (sym ((λ i. item_for c.args.facts.now (array_is c.args.array.now i) c.args.position (plain_item c.args.item.now))
    ∙ array_rows c.args.facts.now array.name array.count (plain_body array.row) c.args.position (plain_item c.args.item.now) (plain_items c.in-List.items) c.in-List.mark is c.in-Ok.rows given))
    c.counted.ensures

pub array_for-returns-in-Err : goal.array_for-returns-in-Err
array_for-returns-in-Err t c =
    let array = out-ArrayField c.args.array.now in
    let is = ap plain_item c.in-List.is ∙ braced c.in-List.items c.in-List.mark in
    let same : rows_matched (row_matched c.args.facts.now (plain_body array.row) c.in-List.mark (plain_items c.in-List.items)) (length (plain_items c.in-List.items)) 0 (plain_items c.in-List.items)
    ≡ rows_matched (row_matched c.args.facts.now (plain_body c.as_slice.result.now) c.in-List.mark (plain_items c.as_slice-in-List.result.now)) (length c.as_slice-in-List.result.now) 0
    (plain_items c.as_slice-in-List.result.now) =
    (λ i. rows_matched (row_matched c.args.facts.now (plain_body (sym c.as_slice.ensures i)) c.in-List.mark (plain_items (sym c.as_slice-in-List.ensures i)))
    (length-map (sym c.as_slice-in-List.ensures i) plain_item i) 0 (plain_items (sym c.as_slice-in-List.ensures i))) in
    subst (λ (field : PlainField). Gives (item_for c.args.facts.now field c.args.position (plain_item c.args.item.now)) (Err c.in-Err.stop)) (sym (array_is c.args.array.now))
    (array_refused c.args.facts.now array.name array.count (plain_body array.row) c.args.position (plain_item c.args.item.now) (plain_items c.in-List.items) c.in-List.mark is c.in-Err.stop
    (subst (λ (r : Result (List (List Tree)) Fault). Gives r (Err c.in-Err.stop)) (sym same) c.in-Err.ensures))

pub choice_for-returns-in-Named : goal.choice_for-returns-in-Named
choice_for-returns-in-Named t c =
    let is = ap plain_item c.in-Named.is ∙ named c.in-Named.name c.in-Named.items c.in-Named.mark in
    let same = ap plain_items c.as_slice.ensures ∙ sym (listed (plain_items c.in-Named.items)) in
    subst (λ (item : PlainItem). Gives (named_matched c.args.position item (case_matched c.args.facts.now (plain_cases c.args.cases.now))) c.case_for.result) (sym is)
    (subst (λ (xs : List PlainItem). Gives (case_matched c.args.facts.now (plain_cases c.args.cases.now) c.in-Named.mark c.in-Named.name.bytes xs) c.case_for.result) same
    c.case_for.ensures)

pub rows_for-returns-in-Err : goal.rows_for-returns-in-Err
rows_for-returns-in-Err t c =
    let items = plain_items c.args.items.now in
    let row = row_matched c.args.facts.now (plain_body c.args.fields.now) c.args.place items in
    let within : c.loop-turn.before < length c.args.items.now = omega (arith, c.if-before-items.false) in
    let one : length c.args.items.now - c.loop-turn._turn ≡ suc (length c.args.items.now - (c.loop-turn._turn + 1)) = omega (arith, c.loop-turn-test.true) in
    let first = items_from c.args.items.now c.loop-turn.before within in
    row_refused row (rows_matched row (length c.args.items.now) 0 items) c.loop-turn.rows (length c.args.items.now - c.loop-turn._turn) (length c.args.items.now - (c.loop-turn._turn + 1))
    c.loop-turn.before one (plain_items (drop c.loop-turn.before c.args.items.now)) first.0 (plain_items (drop (c.loop-turn.before + 1) c.args.items.now)) first.1 c.loop-turn.invariant
    c.args.items.now c.in-Err.stop c.in-Err.ensures

pub rows_for-loop-turn-preserved : goal.rows_for-loop-turn-preserved
rows_for-loop-turn-preserved t c =
    let items = plain_items c.args.items.now in
    let row = row_matched c.args.facts.now (plain_body c.args.fields.now) c.args.place items in
    let within : c.loop-turn.before < length c.args.items.now = omega (arith, c.if-before-items.false) in
    let one : length c.args.items.now - c.loop-turn._turn ≡ suc (length c.args.items.now - (c.loop-turn._turn + 1)) = omega (arith, c.loop-turn-test.true) in
    let first = items_from c.args.items.now c.loop-turn.before within in
    subst (λ (rows : List (List Tree)). rows_behind rows (rows_matched row (length c.args.items.now - (c.loop-turn._turn + 1)) c.in-Ok.line.before
    (plain_items (drop c.in-Ok.line.before c.args.items.now))) ≡ rows_matched row (length c.args.items.now) 0 items) (sym c.in_ok-push-in-Ok.ensures.ok)
    (row_given row (rows_matched row (length c.args.items.now) 0 items) c.loop-turn.rows (length c.args.items.now - c.loop-turn._turn) (length c.args.items.now - (c.loop-turn._turn + 1))
    c.loop-turn.before one (plain_items (drop c.loop-turn.before c.args.items.now)) first.0 (plain_items (drop (c.loop-turn.before + 1) c.args.items.now)) first.1 c.loop-turn.invariant
    (line_of c.args.items.now c.in-Ok.line) c.in-Ok.ensures)

pub match_row-item_for-requires : goal.match_row-item_for-requires
match_row-item_for-requires t c =
    let field = c.field-item.result in
    let deep = at_most size-Field c.args.fields.now c.loop-field.field-index field c.loop-field-test.true in
    let same = ap size-Field c.field-item.is in (
      omega (arith, c.decreases, deep, same),
      (
        search rules,
        (apart_next c.args.fields.now c.loop-field.field-index field c.loop-field-test.true c.field-item.is c.loop-field.invariant.apart).0,
      ),
    )

pub array_for-rows_for-requires : goal.array_for-rows_for-requires
array_for-rows_for-requires t c =
    let deep = size_is-ArrayField c.args.array.now in
    let same = ap (most size-Field) c.as_slice.ensures in
    (omega (arith, c.decreases, deep, same), subst (λ (fields : List Field). AreNamesApart (plain_body fields)) (sym c.as_slice.ensures) (apart_row c.args.array.now c.requires.apart))

pub row_for-match_all-requires : goal.row_for-match_all-requires
row_for-match_all-requires t c =
    let deep = size_is-Case c.args.case.now in
    let same = ap (most size-Field) c.as_slice.ensures in
    (omega (arith, c.decreases, deep, same), subst (λ (fields : List Field). AreNamesApart (plain_body fields)) (sym c.as_slice.ensures) (apart_case c.args.case.now c.requires))

pub case_for-row_for-requires : goal.case_for-row_for-requires
case_for-row_for-requires t c =
    let one = c.index-cases-position.result in
    let deep = at_most size-Case c.args.cases.now c.in-Some.position one c.in-Some.ensures.within in
    let same = ap size-Case c.index-cases-position.is in (
      omega (arith, c.decreases, deep, same),
      apart_within c.args.name.now.bytes (plain_cases c.args.cases.now) (plain_case one) c.requires.apart
          (found_case c.args.name.now.bytes c.as_slice.result.now c.args.cases.now c.in-Some.position one c.in-Some.ensures.within c.index-cases-position.is
          c.as_slice.ensures (c.in-Some.ensures.named c.requires.differ)),
    )

pub case_for-returns-in-Some : goal.case_for-returns-in-Some
case_for-returns-in-Some t c =
    subst (λ (r : Result Tree Fault). Gives r c.row_for.result)
    (sym (matched_some c.args.facts.now c.args.mark c.args.name.now.bytes (plain_items c.args.items.now) (plain_cases c.args.cases.now) (plain_case c.index-cases-position.result)
    (found_case c.args.name.now.bytes c.as_slice.result.now c.args.cases.now c.in-Some.position c.index-cases-position.result c.in-Some.ensures.within c.index-cases-position.is
    c.as_slice.ensures (c.in-Some.ensures.named c.requires.differ))))
    c.row_for.ensures

pub case_for-returns-in_ok-no_case-in-None : goal.case_for-returns-in_ok-no_case-in-None
case_for-returns-in_ok-no_case-in-None t c =
    matched_none c.args.facts.now c.args.mark c.args.name.now.bytes (plain_items c.args.items.now) (plain_cases c.args.cases.now)
    (ap (λ (n : List ℕ). case_named n (plain_cases c.args.cases.now)) (sym c.as_slice.ensures) ∙ c.in-None.ensures.named c.requires.differ)
    ∙ ap (λ (fault : Fault). Err fault) (sym c.in_ok-no_case-in-None.ensures)
