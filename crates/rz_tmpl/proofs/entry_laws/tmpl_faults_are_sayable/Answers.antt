use Rattle.rz_tmpl.proofs.Numbers.{numbered}
use Rattle.rz_tmpl.proofs.entry_laws.tmpl_faults_are_sayable.Goals as goal

pub returns : goal.returns
returns c = numbered
