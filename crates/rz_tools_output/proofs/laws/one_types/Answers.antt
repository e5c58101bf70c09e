use Rattle.rz_tools_output.proofs.Files.{once_of}
use Rattle.rz_tools_output.proofs.laws.one_types.Goals as goal

pub returns : goal.returns
returns c = once_of c.one_body.ensures
