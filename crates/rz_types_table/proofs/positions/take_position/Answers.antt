use Rattle.std.proofs.Common.{[], refl, ap, subst, ◌∙◌}
use Rattle.std.specs.List.{remove}
use Rattle.std.specs.Option.{option_map_or, IsSome}
use Rattle.rz_types_table.proofs.Groups.{held_less}
use Rattle.rz_types_table.proofs.positions.take_position.Goals as goal

pub returns-in-Some-clause-places : goal.returns-in-Some-clause-places
returns-in-Some-clause-places c =
    let there = c.in-Some.ensures.value in λ other.
    held_less c.args.places.now c.args.group c.remove.new.self other _ c.args.index
    (((c.get_mut.follows.holds c.remove.new.self).3 (subst IsSome there refl)).0 other)
    (c.remove.ensures.items ∙ ap (λ o. remove (option_map_or (λ own. own.items) o []) c.args.index) there)
