use Rattle.rz_tools_answer.proofs.Complete.{complete}
use Rattle.rz_tools_answer.proofs.laws.answers_are_carried_out.Goals as goal

pub returns : goal.returns
returns c = complete
