use Rattle.std.proofs.Common.{rules, ◌<◌, ◌∙◌, length, get_or, ap, of_z, take, to_z, w16}
use Rattle.std.specs.Prelude.{None, option_map}
use Rattle.std.proofs.lemmas.Int.{to_z-of_z}
use Rattle.rz_types_table.specs.Listed.{declaration_of, listed}
use Rattle.rz_types_table.specs.Table.{is_for, is_range_of, last_such}
use Rattle.rz_types_table.proofs.Groups.{not_for_range}
use Rattle.rz_types_fields.proofs.Positions.{at_positions}
use Rattle.rz_types_table.proofs.Placed.{last_own, later_at, own_within}
use Rattle.rz_types_table.proofs.find.last_for_range.Goals as goal

pub bounds-slots-position : goal.bounds-slots-position
bounds-slots-position c = own_within (c.args.kind.code, None) c.args.slots.now c.args.own.now c.requires c.loop-position.position-index c.loop-position-test.true

pub offset_bounds-slots-position : goal.offset_bounds-slots-position
offset_bounds-slots-position c =
    let within : get_or c.args.own.now c.loop-position.position-index 0 < length c.args.slots.now =
    own_within (c.args.kind.code, None) c.args.slots.now c.args.own.now c.requires c.loop-position.position-index c.loop-position-test.true in
    search rules

pub loop-position-preserved : goal.loop-position-preserved
loop-position-preserved c =
    let id = to_z w16 (of_z w16 c.args.id) in
    let i = c.loop-position.position-index in
    let within : get_or c.args.own.now i 0 < length c.args.slots.now = own_within (c.args.kind.code, None) c.args.slots.now c.args.own.now c.requires i c.loop-position-test.true in
    later_at (is_for c.args.kind (is_range_of id)) declaration_of c.args.slots.now c.args.own.now i c.index-slots-position.result c.loop-position-test.true within c.index-slots-position.is
    c.is_for_range_of.result (option_map (λ one. declaration_of one.now) c.loop-position.by_range) (option_map (λ one. declaration_of one.now) c.later-by_range.result)
    c.later-by_range.ensures c.is_for_range_of.ensures c.loop-position.invariant

pub returns : goal.returns
returns c =
    let i = c.loop-position.position-index in
    c.loop-position.invariant
    ∙ ap (λ id. last_such (is_for c.args.kind (is_range_of id)) (listed (at_positions c.args.slots.now (take i c.args.own.now)))) (to_z-of_z w16 c.args.id c.ranges.id)
    ∙ last_own (c.args.kind.code, None) c.args.slots.now c.args.own.now c.requires (is_for c.args.kind (is_range_of c.args.id)) (not_for_range c.args.kind c.args.id) i c.loop-position-test.false
