use Rattle.std.proofs.Common.{rules, ◌<◌, length, get_or, refl, sym, ap, ◌∙◌}
use Rattle.std.proofs.lemmas.Option.{slice_get_read}
use Rattle.std.specs.Prelude.{Option, Some}
use Rattle.rz_types_table.specs.Listed.{declaration_of}
use Rattle.rz_types_table.specs.Positions.{group_of}
use Rattle.rz_types_table.specs.Table.{stands_at}
use Rattle.rz_types_table.specs.declared.table.Declared.{Declared}
use Rattle.rz_types_table.proofs.Groups.{not_there}
use Rattle.rz_types_table.proofs.Placed.{found_in, none_at, none_front, none_own, own_within}
use Rattle.rz_types_table.proofs.find.index_of.Goals as goal

pub bounds-slots-position : goal.bounds-slots-position
bounds-slots-position c = own_within (group_of c.args.kind c.args.scope) c.args.slots.now c.args.own.now c.requires c.loop-index.index c.loop-index-test.true

pub offset_bounds-slots-position : goal.offset_bounds-slots-position
offset_bounds-slots-position c =
    let within : get_or c.args.own.now c.loop-index.index 0 < length c.args.slots.now =
    own_within (group_of c.args.kind c.args.scope) c.args.slots.now c.args.own.now c.requires c.loop-index.index c.loop-index-test.true in
    search rules

pub returns-then-stands_in : goal.returns-then-stands_in
returns-then-stands_in c =
    let i = c.loop-index.index in
    let slots = c.args.slots.now in
    let slot = c.index-slots-position.result in
    let within : get_or c.args.own.now i 0 < length slots = own_within (group_of c.args.kind c.args.scope) slots c.args.own.now c.requires i c.loop-index-test.true in
    let one = found_in (stands_at c.args.kind c.args.scope) declaration_of slot (sym c.if-stands_in.ensures) in (
      one.0,
      c.loop-index-test.true,
      slice_get_read slots (length slots) (get_or c.args.own.now i 0) slot refl within c.index-slots-position.is ∙ ap (λ (o : Option Declared). Some o) one.1,
      one.2,
      none_front (group_of c.args.kind c.args.scope) slots c.args.own.now c.requires (stands_at c.args.kind c.args.scope) (not_there c.args.kind c.args.scope) i c.loop-index-test.true
          c.loop-index.invariant,
    )

pub loop-index-preserved : goal.loop-index-preserved
loop-index-preserved c =
    let i = c.loop-index.index in
    let within : get_or c.args.own.now i 0 < length c.args.slots.now = own_within (group_of c.args.kind c.args.scope) c.args.slots.now c.args.own.now c.requires i c.loop-index-test.true in
    none_at (stands_at c.args.kind c.args.scope) declaration_of c.args.slots.now c.args.own.now i c.index-slots-position.result c.loop-index-test.true within
    c.index-slots-position.is (sym c.if-stands_in.ensures) c.loop-index.invariant

pub returns : goal.returns
returns c =
    none_own (group_of c.args.kind c.args.scope) c.args.slots.now c.args.own.now c.requires (stands_at c.args.kind c.args.scope) (not_there c.args.kind c.args.scope)
    c.loop-index.index c.loop-index-test.false c.loop-index.invariant
