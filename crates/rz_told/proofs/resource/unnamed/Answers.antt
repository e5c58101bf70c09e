use Rattle.rz_fork.specs.View.{lent}
use Rattle.rz_told.proofs.Sizes.{two_written, unnamed_size}
use Rattle.rz_told.specs.Parts.{resource_end, resource_front}
use Rattle.rz_told.proofs.resource.unnamed.Goals as goal

pub returns : goal.returns
returns c =
    let r = lent c.args.view.now in
    two_written c.new-line.result c.write_front.new.line c.write_end.new.line (resource_front r) (resource_end r) c.new-line.ensures c.write_front.ensures c.write_end.ensures (unnamed_size r c.is_stored.ensures.id c.is_stored.ensures.bytes)
