use Rattle.std.proofs.Common.{rules, ◌<◌, ◌∙◌, length, get_or}
use Rattle.std.specs.Prelude.{None, option_map}
use Rattle.rz_types_table.specs.Listed.{declaration_of}
use Rattle.rz_types_table.specs.Table.{is_any, is_for}
use Rattle.rz_types_table.proofs.Groups.{not_for_any}
use Rattle.rz_types_table.proofs.Placed.{last_own, later_at, own_within}
use Rattle.rz_types_table.proofs.find.last_for_any.Goals as goal

pub bounds-slots-position : goal.bounds-slots-position
bounds-slots-position c = own_within (c.args.kind.code, None) c.args.slots.now c.args.own.now c.requires c.loop-position.position-index c.loop-position-test.true

pub offset_bounds-slots-position : goal.offset_bounds-slots-position
offset_bounds-slots-position c =
    let within : get_or c.args.own.now c.loop-position.position-index 0 < length c.args.slots.now =
    own_within (c.args.kind.code, None) c.args.slots.now c.args.own.now c.requires c.loop-position.position-index c.loop-position-test.true in
    search rules

pub loop-position-preserved : goal.loop-position-preserved
loop-position-preserved c =
    let i = c.loop-position.position-index in
    let within : get_or c.args.own.now i 0 < length c.args.slots.now = own_within (c.args.kind.code, None) c.args.slots.now c.args.own.now c.requires i c.loop-position-test.true in
    later_at (is_for c.args.kind is_any) declaration_of c.args.slots.now c.args.own.now i c.index-slots-position.result c.loop-position-test.true within c.index-slots-position.is
    c.is_for_any.result (option_map (λ one. declaration_of one.now) c.loop-position.for_any) (option_map (λ one. declaration_of one.now) c.later-for_any.result)
    c.later-for_any.ensures c.is_for_any.ensures c.loop-position.invariant

pub returns : goal.returns
returns c =
    c.loop-position.invariant
    ∙ last_own (c.args.kind.code, None) c.args.slots.now c.args.own.now c.requires (is_for c.args.kind is_any) (not_for_any c.args.kind) c.loop-position.position-index c.loop-position-test.false
