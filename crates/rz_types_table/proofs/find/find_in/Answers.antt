use Rattle.std.proofs.Common.{ap, ◌∙◌, of_z, to_z, w16}
use Rattle.std.specs.Prelude.{None, Some, option_map}
use Rattle.std.proofs.lemmas.Int.{to_z-of_z}
use Rattle.rz_core.specs.Lists.{or_else}
use Rattle.rz_types_table.specs.Listed.{declaration_of, listed}
use Rattle.rz_types_table.specs.Table.{found}
use Rattle.rz_types_table.proofs.find.find_in.Goals as goal

pub last_for_id-by_id-requires : goal.last_for_id-by_id-requires
last_for_id-by_id-requires c = c.held-own.ensures ∙ c.requires (c.args.kind.code, Some (to_z w16 (of_z w16 c.args.id)))

pub last_for_range-by_range-requires : goal.last_for_range-by_range-requires
last_for_range-by_range-requires c = c.held-others.ensures ∙ c.requires (c.args.kind.code, None)

pub last_for_any-for_any-requires : goal.last_for_any-for_any-requires
last_for_any-for_any-requires c = c.held-others.ensures ∙ c.requires (c.args.kind.code, None)

pub returns : goal.returns
returns c =
    c.or_else-2.ensures
    ∙ ap (or_else (option_map (λ one. declaration_of one.now) c.last_for_id-by_id.result)) c.or_else.ensures
    ∙ (λ j. or_else (c.last_for_id-by_id.ensures j) (or_else (c.last_for_range-by_range.ensures j) (c.last_for_any-for_any.ensures j)))
    ∙ ap (λ z. found c.args.kind z (listed c.args.slots.now)) (to_z-of_z w16 c.args.id c.ranges.id)
