use Rattle.rz_core.proofs.Stops.{gives_value, gives_fault}
use Rattle.rz_lex.specs.Joined.{joined}
use Rattle.rz_lex.specs.Lexed.{Lexes, LexFails}
use Rattle.rz_lex.proofs.OneLex.{one_text, one_failure, text_or_failure}
use Rattle.rz_lex.proofs.lexed.lex.Goals as goal

pub returns-clause-every_list : goal.returns-clause-every_list
returns-clause-every_list c = gives_value (Lexes c.args.file (joined 1 c.args.text.now)) (LexFails c.args.file (joined 1 c.args.text.now))
    (text_or_failure c.args.file (joined 1 c.args.text.now)) (one_text c.args.file (joined 1 c.args.text.now)) c.lex_lines.result c.lex_lines.ensures.tokens c.lex_lines.ensures.fault

pub returns-clause-every_fault : goal.returns-clause-every_fault
returns-clause-every_fault c = gives_fault (Lexes c.args.file (joined 1 c.args.text.now)) (LexFails c.args.file (joined 1 c.args.text.now))
    (text_or_failure c.args.file (joined 1 c.args.text.now)) (one_failure c.args.file (joined 1 c.args.text.now)) c.lex_lines.result c.lex_lines.ensures.tokens c.lex_lines.ensures.fault
