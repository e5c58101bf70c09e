use Rattle.std.proofs.Common.{ℕ, ℤ, [], ◌∷◌, ◌++◌, if◌then◌else◌, ap, ◌∙◌}
use Rattle.std.specs.Prelude.{Option}
use Rattle.rz_types_table.specs.Positions.{held, same_group}
use Rattle.rz_types_table.proofs.Placed.{placed_append}
use Rattle.rz_types_table.proofs.table.TypeTable.append.Goals as goal

pub invariant_of-self-in-Ok : goal.invariant_of-self-in-Ok
invariant_of-self-in-Ok c = record {
  placed = λ group. placed_append c.args.self.now.declared.items c.push.new.self.items c.args.one c.len-position.result group
      (held group c.args.self.now.places) (held group c.add.new.places) (c.len-position.ensures ∙ c.args.self.now.declared.ok.0) c.in_ok-push.ensures.items
      (c.in-Ok.ensures.ok group
      ∙ ap (λ (own : ℕ × Option ℤ). held group c.args.self.now.places ++ (if same_group own group then c.len-position.result ∷ [] else [])) c.group_of-group.ensures)
      (c.args.self.now.placed group);
}
