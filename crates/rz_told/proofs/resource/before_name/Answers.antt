use Rattle.std.specs.Prelude.{codes}
use Rattle.rz_fork.specs.View.{lent}
use Rattle.rz_told.proofs.Sizes.{before_size, two_written}
use Rattle.rz_told.specs.Parts.{resource_front}
use Rattle.rz_told.proofs.resource.before_name.Goals as goal

pub returns : goal.returns
returns c =
    let r = lent c.args.view.now in
    two_written c.new-line.result c.write_front.new.line c.append.new.self (resource_front r) (codes ", \"") c.new-line.ensures c.write_front.ensures c.append.ensures (before_size r c.is_stored.ensures.id)
