use Rattle.rz_tmpl.proofs.Closed.{closed_is}
use Rattle.rz_tmpl.proofs.laws.closed_templates_are_readable.Goals as goal

pub returns : goal.returns
returns c = closed_is
