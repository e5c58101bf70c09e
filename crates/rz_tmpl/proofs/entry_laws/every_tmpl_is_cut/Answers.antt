use Rattle.rz_tmpl.proofs.EveryCut.{every_cut}
use Rattle.rz_tmpl.proofs.entry_laws.every_tmpl_is_cut.Goals as goal

pub returns : goal.returns
returns c = every_cut
