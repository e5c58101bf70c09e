use Rattle.rz_lex.proofs.Shapes.{cuts_lexed}
use Rattle.rz_lex.proofs.laws.tokens_are_lexed.Goals as goal

pub returns : goal.returns
returns c = cuts_lexed
