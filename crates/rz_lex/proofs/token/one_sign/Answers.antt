use Rattle.rz_lex.proofs.Signs.{told}
use Rattle.rz_lex.proofs.token.one_sign.Goals as goal

pub returns : goal.returns
returns c = told
