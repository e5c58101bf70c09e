use Rattle.std.proofs.Common.{◌≡◌, ◌<◌, length, get_or, refl, sym, ap, arith}
use Rattle.std.proofs.lemmas.Option.{get_or_from_slice_get, slice_get-get_or}
use Rattle.std.specs.Prelude.{None, set}
use Rattle.rz_types_table.specs.Positions.{held}
use Rattle.rz_types_table.proofs.Placed.{own_within, placed_out}
use Rattle.rz_types_table.proofs.table.TypeTable.take_out.Goals as goal

pub index_mut-requires : goal.index_mut-requires
index_mut-requires c =
    let own = held c.args.group c.args.self.now.places in
    let within : get_or own c.args.index 0 < length c.args.self.now.declared.items =
    own_within c.args.group c.args.self.now.declared.items own (c.args.self.now.placed c.args.group) c.args.index c.requires in
    let at : get_or own c.args.index 0 ≡ c.in-Some.position = get_or_from_slice_get own c.args.index c.in-Some.position 0 (sym c.in-Some.ensures.position) in
    omega (arith, within, at, c.args.self.now.declared.ok.0)

pub invariant_of-self : goal.invariant_of-self
invariant_of-self c =
    let slots = c.args.self.now.declared.items in
    let places = c.args.self.now.places in record {
      placed = λ other. placed_out slots (set slots c.in-Some.position None) c.args.group other c.args.index c.in-Some.position
          (held c.args.group places) (held other places) (held other c.take_position.new.places) (sym c.in-Some.ensures.position)
          (c.args.self.now.placed c.args.group) (c.args.self.now.placed other) (c.in-Some.ensures.places other) refl;
    }

pub invariant_of-self-in_default : goal.invariant_of-self-in_default
invariant_of-self-in_default c =
    let there = slice_get-get_or (held c.args.group c.args.self.now.places) c.args.index 0 c.requires in
    let none = c.in_default.is in
    let is = c.take_position.ensures.position in absurd cc

pub returns-in-Some : goal.returns-in-Some
returns-in-Some c =
    let own = held c.args.group c.args.self.now.places in
    ap (λ n. set c.args.self.now.declared.items n None) (sym (get_or_from_slice_get own c.args.index c.in-Some.position 0 (sym c.in-Some.ensures.position)))

pub returns-in_default : goal.returns-in_default
returns-in_default c =
    let there = slice_get-get_or (held c.args.group c.args.self.now.places) c.args.index 0 c.requires in
    let none = c.in_default.is in
    let is = c.take_position.ensures.position in absurd cc
