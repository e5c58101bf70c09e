use Rattle.std.proofs.Common.{ap, ◌∙◌, w16}
use Rattle.std.specs.Prelude.{option_map}
use Rattle.std.proofs.lemmas.Int.{to_z-of_z}
use Rattle.rz_types_table.specs.Table.{found, Declaration}
use Rattle.rz_types_table.specs.TypeTable.{table_of}
use Rattle.rz_types_table.proofs.table.TypeTable.find.Goals as goal

pub returns-in-Some : goal.returns-in-Some
returns-in-Some c =
    let is = rw (c.in-Some.is, c.deref.ensures.value) at c.find_in.ensures in
    ap (option_map (λ (one : Declaration). one.template)) (is ∙ ap (λ id. found c.args.kind id (table_of c.args.self.now)) (to_z-of_z w16 c.args.id c.ranges.id))

pub returns-in-None : goal.returns-in-None
returns-in-None c =
    let is = rw (c.in-None.is, c.deref.ensures.value) at c.find_in.ensures in
    ap (option_map (λ (one : Declaration). one.template)) (is ∙ ap (λ id. found c.args.kind id (table_of c.args.self.now)) (to_z-of_z w16 c.args.id c.ranges.id))
