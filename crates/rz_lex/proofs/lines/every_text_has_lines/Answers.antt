use Rattle.rz_lex.proofs.EveryText.{has_lines}
use Rattle.rz_lex.proofs.lines.every_text_has_lines.Goals as goal

pub returns : goal.returns
returns c = has_lines
