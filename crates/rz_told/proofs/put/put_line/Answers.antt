use Rattle.rz_told.proofs.Putting.{puts_as}
use Rattle.rz_told.proofs.put.put_line.Goals as goal

pub returns : goal.returns
returns g c = puts_as g.O.Sink c.args.line c.as_slice.ensures c.put_bytes.ensures
