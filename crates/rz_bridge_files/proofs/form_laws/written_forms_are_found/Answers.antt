use Rattle.rz_bridge_files.proofs.Found.{double_found, single_found, macbin_found, hqx_found}
use Rattle.rz_bridge_files.proofs.form_laws.written_forms_are_found.Goals as goal

pub returns-clause-double : goal.returns-clause-double
returns-clause-double c = double_found

pub returns-clause-single : goal.returns-clause-single
returns-clause-single c = single_found

pub returns-clause-macbin : goal.returns-clause-macbin
returns-clause-macbin c = macbin_found

pub returns-clause-hqx : goal.returns-clause-hqx
returns-clause-hqx c = hqx_found
