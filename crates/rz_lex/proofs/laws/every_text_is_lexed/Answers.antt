use Rattle.rz_lex.proofs.EveryLex.{every_text}
use Rattle.rz_lex.proofs.laws.every_text_is_lexed.Goals as goal

pub returns : goal.returns
returns c = every_text
