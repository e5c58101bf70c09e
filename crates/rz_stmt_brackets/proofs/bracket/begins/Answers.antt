use Rattle.std.proofs.Common.{sym, ap, ◌∙◌}
use Rattle.std.proofs.lemmas.List.{nil_from_length}
use Rattle.rz_stmt_brackets.specs.Bracket.{begins}
use Rattle.rz_stmt_brackets.proofs.bracket.begins.Goals as goal

pub returns-in-Some : goal.returns-in-Some
returns-in-Some c = c.opens.ensures ∙ ap (begins c.args.bracket) (sym c.in-Some.ensures.cases.0)

pub returns-in-None : goal.returns-in-None
returns-in-None c = ap (begins c.args.bracket) (sym (nil_from_length c.args.tokens.now c.in-None.ensures.cases))
