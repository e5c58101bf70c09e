use Rattle.rz_pre_laws.proofs.Lexed.{program_lexed}
use Rattle.rz_pre_laws.proofs.laws.programs_are_lexed.Goals as goal

pub returns : goal.returns
returns c = program_lexed c.tokens_are_lexed.ensures
