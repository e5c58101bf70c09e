use Rattle.rz_tools_args.proofs.Lexed.{asked_free}
use Rattle.rz_tools_args.proofs.laws.definitions_are_free.Goals as goal

pub returns : goal.returns
returns c = asked_free
