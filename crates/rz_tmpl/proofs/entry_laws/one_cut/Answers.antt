use Rattle.rz_tmpl.proofs.Cuts.{one_cut}
use Rattle.rz_tmpl.proofs.entry_laws.one_cut.Goals as goal

pub returns : goal.returns
returns c = one_cut
