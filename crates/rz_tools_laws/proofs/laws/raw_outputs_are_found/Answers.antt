use Rattle.rz_tools_laws.proofs.Raw.{output_found, output_read}
use Rattle.rz_tools_laws.proofs.laws.raw_outputs_are_found.Goals as goal

pub returns-clause-form : goal.returns-clause-form
returns-clause-form c = output_found c.forks_are_found_raw.ensures.fork

pub returns-clause-file : goal.returns-clause-file
returns-clause-file c = output_read c.forks_are_found_raw.ensures.fork
