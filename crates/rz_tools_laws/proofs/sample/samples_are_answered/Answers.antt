use Rattle.rz_tools_laws.proofs.Answered.{answered}
use Rattle.rz_tools_laws.proofs.sample.samples_are_answered.Goals as goal

pub returns : goal.returns
returns c = answered c.samples_are_made.ensures c.one_answer.ensures
