use Rattle.rz_tools_args.proofs.Lexed.{asked_lexed}
use Rattle.rz_tools_args.proofs.laws.definitions_are_lexed.Goals as goal

pub returns : goal.returns
returns c = asked_lexed c.tokens_are_lexed.ensures
