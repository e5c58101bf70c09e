use Rattle.std.proofs.Common.{rules, sym, ap, ◌∙◌, ℤ, None, Option, w16, SFits}
use Rattle.std.proofs.lemmas.Int.{to_z-of_z}
use Rattle.rz_types_table.specs.Table.{asked, found}
use Rattle.rz_types_table.specs.Listed.{listed}
use Rattle.rz_types_table.proofs.find.asked_in.Goals as goal

pub last_for_any-requires : goal.last_for_any-requires
last_for_any-requires c = c.held.ensures ∙ c.requires (c.args.kind.code, None)

pub returns-in-Some : goal.returns-in-Some
returns-in-Some c =
    let fits : SFits w16 c.in-Some.id = search rules in
    c.find_in.ensures
    ∙ ap (λ z. found c.args.kind z (listed c.args.slots.now)) (to_z-of_z w16 c.in-Some.id fits)
    ∙ ap (λ (id : Option ℤ). asked c.args.kind id (listed c.args.slots.now)) (sym c.in-Some.is)
