use Rattle.std.proofs.Common.{◌≡◌, ℕ, ◌+◌, ◌-◌, ◌<◌, ◌≤◌, List, ◌∷◌, drop, length, None, sym, subst, arith}
use Rattle.std.proofs.lemmas.Result.{err_from_is_err_and}
use Rattle.std.specs.Prelude.{replicate, Ok, Err}
use Rattle.rz_core.specs.Stop.{Gives}
use Rattle.rz_core.specs.declared.fault.Fault.{Fault}
use Rattle.rz_core.specs.declared.stop.Stop.{Stop}
use Rattle.rz_stmt_items.specs.Item.{plain_item, plain_items}
use Rattle.rz_stmt_items.specs.Matched.{number_for, numbers_for}
use Rattle.rz_stmt_items.proofs.Steps.{no_field, no_item, one_more, one_stop, replicate_end, replicate_more, rest_at, rest_end, walked_through, Walked}
use Rattle.rz_types.specs.Field.{PlainNumber}
use Rattle.rz_types.specs.Shape.{numbers_of}
use Rattle.rz_types.specs.Piece.{integer}
use Rattle.rz_stmt_items.proofs.group.numbers_under.Goals as goal

pub returns-in_default : goal.returns-in_default
returns-in_default c =
    let items = plain_items c.args.items.now in
    let whole = numbers_for c.args.facts.now c.args.rect c.args.place items in
    let i = c.loop-before.before in
    let within : i < numbers_of c.args.rect = omega (arith, c.loop-before-test.true, c.numbers_of-count.ensures) in
    subst (λ (s : Stop Fault). Gives whole (Err s)) (sym c.too_few.ensures)
    (no_item (number_for c.args.facts.now) c.args.place items whole c.loop-before.numbers i (replicate (numbers_of c.args.rect - i) (integer None))
    (plain_items (drop i c.args.items.now)) c.loop-before.invariant (integer None) (replicate (numbers_of c.args.rect - (i + 1)) (integer None))
    (replicate_more (numbers_of c.args.rect) i (integer None) within) (rest_end plain_item c.args.items.now i c.in_default.ensures.lookup.3))

pub returns-in_err-number : goal.returns-in_err-number
returns-in_err-number c =
    let items = plain_items c.args.items.now in
    let whole = numbers_for c.args.facts.now c.args.rect c.args.place items in
    let i = c.loop-before.before in
    let item = c.in-Some.item.now in
    let within : i < numbers_of c.args.rect = omega (arith, c.loop-before-test.true, c.numbers_of-count.ensures) in
    let gives = subst (λ (number : PlainNumber). Gives (number_for c.args.facts.now (i + 1) number (plain_item item)) (Err c.in_err-number.field-0.0)) c.requires
    c.in_err-number.ensures.number in
    let left = err_from_is_err_and c.from_residual.result c.from_residual.ensures.1 in
    rw (left.1, left.2) (one_stop (number_for c.args.facts.now) c.args.place items whole c.loop-before.numbers i (replicate (numbers_of c.args.rect - i) (integer None))
    (plain_items (drop i c.args.items.now)) c.loop-before.invariant (integer None) (replicate (numbers_of c.args.rect - (i + 1)) (integer None)) (plain_item item)
    (plain_items (drop (i + 1) c.args.items.now)) c.in_err-number.field-0.0 (replicate_more (numbers_of c.args.rect) i (integer None) within)
    (rest_at plain_item c.args.items.now i item c.in-Some.ensures.lookup.3.0 c.in-Some.ensures.lookup.1) gives)

pub loop-before-preserved : goal.loop-before-preserved
loop-before-preserved c =
    let items = plain_items c.args.items.now in
    let whole = numbers_for c.args.facts.now c.args.rect c.args.place items in
    let i = c.loop-before.before in
    let item = c.in-Some.item.now in
    let within : i < numbers_of c.args.rect = omega (arith, c.loop-before-test.true, c.numbers_of-count.ensures) in
    let gives = subst (λ (number : PlainNumber). number_for c.args.facts.now (i + 1) number (plain_item item) ≡ Ok c.in_ok-number.number) c.requires
    c.in_ok-number.ensures.number in
    subst (λ (numbers : List ℕ). Walked (number_for c.args.facts.now) c.args.place items whole numbers (i + 1)
    (replicate (numbers_of c.args.rect - (i + 1)) (integer None)) (plain_items (drop (i + 1) c.args.items.now))) (sym c.in_ok-push.ensures.ok)
    (one_more (number_for c.args.facts.now) c.args.place items whole c.loop-before.numbers i (replicate (numbers_of c.args.rect - i) (integer None))
    (plain_items (drop i c.args.items.now)) c.loop-before.invariant (integer None) (replicate (numbers_of c.args.rect - (i + 1)) (integer None)) (plain_item item)
    (plain_items (drop (i + 1) c.args.items.now)) c.in_ok-number.number (replicate_more (numbers_of c.args.rect) i (integer None) within)
    (rest_at plain_item c.args.items.now i item c.in-Some.ensures.lookup.3.0 c.in-Some.ensures.lookup.1) gives)

pub returns-in-None : goal.returns-in-None
returns-in-None c =
    let items = plain_items c.args.items.now in
    let whole = numbers_for c.args.facts.now c.args.rect c.args.place items in
    let i = c.loop-before.before in
    let past : numbers_of c.args.rect ≤ i = omega (arith, c.loop-before-test.false, c.numbers_of-count.ensures) in
    let ended : length c.args.items.now ≤ i = omega (arith, c.loop-before-test.false, c.in-None.ensures.lookup.3) in
    walked_through (number_for c.args.facts.now) c.args.place items whole c.loop-before.numbers i (replicate (numbers_of c.args.rect - i) (integer None))
    (plain_items (drop i c.args.items.now)) c.loop-before.invariant (replicate_end (numbers_of c.args.rect) i (integer None) past)
    (rest_end plain_item c.args.items.now i ended)

pub returns-in-Some-get : goal.returns-in-Some-get
returns-in-Some-get c =
    let items = plain_items c.args.items.now in
    let whole = numbers_for c.args.facts.now c.args.rect c.args.place items in
    let i = c.loop-before.before in
    let item = c.in-Some-get.item.now in
    let past : numbers_of c.args.rect ≤ i = omega (arith, c.loop-before-test.false, c.numbers_of-count.ensures) in
    let here : c.numbers_of-count.result ≡ i = omega (arith, c.loop-before-test.false, c.loop-before.auto.before-end) in
    subst (λ (s : Stop Fault). Gives whole (Err s)) (sym c.too_many.ensures)
    (no_field (number_for c.args.facts.now) c.args.place items whole c.loop-before.numbers i (replicate (numbers_of c.args.rect - i) (integer None))
    (plain_items (drop i c.args.items.now)) c.loop-before.invariant (plain_item item) (plain_items (drop (i + 1) c.args.items.now))
    (replicate_end (numbers_of c.args.rect) i (integer None) past)
    (subst (λ (k : ℕ). plain_items (drop k c.args.items.now) ≡ plain_item item ∷ plain_items (drop (k + 1) c.args.items.now)) here
    (rest_at plain_item c.args.items.now c.numbers_of-count.result item c.in-Some-get.ensures.lookup.3.0 c.in-Some-get.ensures.lookup.1)))
