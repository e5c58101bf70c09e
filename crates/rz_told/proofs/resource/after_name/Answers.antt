use Rattle.std.specs.Prelude.{codes}
use Rattle.rz_fork.specs.View.{lent}
use Rattle.rz_told.proofs.Sizes.{after_size, two_written}
use Rattle.rz_told.specs.Parts.{resource_end}
use Rattle.rz_told.proofs.resource.after_name.Goals as goal

pub returns : goal.returns
returns c =
    let r = lent c.args.view.now in
    two_written c.new-line.result c.push.new.self c.write_end.new.line (codes "\"") (resource_end r) c.new-line.ensures c.push.ensures c.write_end.ensures (after_size r c.is_stored.ensures.bytes)
