use Rattle.std.proofs.Common.{◌≡◌, ap, length, arith}
use Rattle.std.proofs.lemmas.List.{length-map}
use Rattle.std.proofs.lemmas.Grind.{common_steps}
use Rattle.rz_fork.specs.Groups.{shown, group_entries}
use Rattle.rz_fork.specs.Image.{lists_with}
use Rattle.rz_fork.proofs.Lengths.{length-lists_with, length-group_entries}
use Rattle.rz_fork.proofs.write.write_lists.Goals as goal

pub returns-clause-length : goal.returns-clause-length
returns-clause-length c =
    let groups = c.args.groups.now in
    let order = shown c.args.order.now in
    let lists : c.append_references.new.out ≡ lists_with (length groups) (group_entries groups) order = grind (arith, common_steps) in
    omega (arith, ap length lists, length-lists_with (length groups) (group_entries groups) order (length-group_entries groups), length-map c.args.order.now (λ r. r.now))
