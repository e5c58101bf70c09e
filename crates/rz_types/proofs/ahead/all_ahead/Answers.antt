use Rattle.std.proofs.Common.{rules, ◌≡◌, ◌-◌, ◌<◌, ◌≤◌, ℕ, List, [], drop, length, sym, subst, ◌∙◌, arith}
use Rattle.rz_types_fields.specs.Field.{plain_body}
use Rattle.rz_types_fields.specs.declared.names.Note.{Note}
use Rattle.rz_types.proofs.NearLabels.{measured_within, near_end, near_more, NearHere}
use Rattle.rz_types.proofs.ahead.all_ahead.Goals as goal

pub loop-later-init : goal.loop-later-init
loop-later-init c =
    let fields = c.args.fields.now in
    let all : c.count_measured-count.result - 0 ≡ c.count_measured-count.result = omega arith in
    subst (λ (notes : List Note). NearHere (plain_body (drop (c.count_measured-count.result - 0) fields)) notes) (sym c.new-near.ensures)
    (subst (λ (n : ℕ). NearHere (plain_body (drop n fields)) []) (sym (all ∙ c.count_measured-count.ensures)) (near_end fields))

pub bounds-fields-count : goal.bounds-fields-count
bounds-fields-count c =
    let few : c.count_measured-count.result ≤ length c.args.fields.now = subst (λ (n : ℕ). n ≤ length c.args.fields.now) (sym c.count_measured-count.ensures) (measured_within c.args.fields.now) in
    omega (arith, few, c.loop-later-test.true)

pub offset_bounds-fields-count : goal.offset_bounds-fields-count
offset_bounds-fields-count c =
    let few : c.count_measured-count.result ≤ length c.args.fields.now = subst (λ (n : ℕ). n ≤ length c.args.fields.now) (sym c.count_measured-count.ensures) (measured_within c.args.fields.now) in
    let within : c.count_measured-count.result - 1 - c.loop-later.later < length c.args.fields.now = omega (arith, few, c.loop-later-test.true) in
    search rules

pub loop-later-preserved : goal.loop-later-preserved
loop-later-preserved c =
    near_more c.args.fields.now c.count_measured-count.result c.loop-later.later c.index-fields-count.result c.loop-later.near.items c.note_near.new.near.items
    c.count_measured-count.ensures c.loop-later-test.true c.index-fields-count.is c.in_ok-note_near.ensures c.loop-later.invariant
