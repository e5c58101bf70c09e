use Rattle.std.proofs.Common.{◌≡◌, ap, length, arith}
use Rattle.std.proofs.lemmas.Grind.{common_steps}
use Rattle.rz_fork.specs.Groups.{shown}
use Rattle.rz_fork.specs.Image.{tail_with, name_list}
use Rattle.rz_fork.proofs.Lengths.{length-tail_with}
use Rattle.rz_fork.proofs.write.write_tail.Goals as goal

pub returns-clause-short : goal.returns-clause-short
returns-clause-short c =
    let lists = c.in_ok-lists.lists in
    let names = name_list (shown c.args.order.now) in
    let tail : c.append_names.new.out ≡ tail_with c.args.attributes lists names = grind (arith, common_steps) in
    omega (arith, ap length tail, length-tail_with c.args.attributes lists names, c.in_ok-lists.ensures.length, c.requires.lists, c.requires.names)
