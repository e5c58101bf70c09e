use Rattle.std.proofs.Common.{Some, ap, sym, ◌∙◌}
use Rattle.rz_lex.proofs.Befores.{no_backslash}
use Rattle.rz_lex.proofs.escape.text_value.Goals as goal

pub returns-then-is_none : goal.returns-then-is_none
returns-then-is_none c = ap Some c.in_ok-of.ensures ∙ sym (no_backslash c.memchr.result c.args.body.now c.memchr.ensures c.if-is_none.ensures)
