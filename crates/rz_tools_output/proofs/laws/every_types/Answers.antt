use Rattle.rz_tools_output.proofs.Files.{has_of}
use Rattle.rz_tools_output.proofs.laws.every_types.Goals as goal

pub returns : goal.returns
returns c = has_of c.every_tmpl_has_a_body.ensures
